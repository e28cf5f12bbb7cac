-- The order of stamps and the windows, by business days after the trading day and minute of the day.
use Rattle.std.specs.Prelude.{ℕ, Bool, cond, ◌==◌, nat_le, nat_lt}

-- the stamp (d, m) comes before the stamp (e, n)
abbrev pub earlier : ℕ → ℕ → ℕ → ℕ → Bool
earlier d m e n = cond (d == e) (nat_lt m n) (nat_lt d e)

-- the stamp (d, m) is no later than 17:00, the minute 1020, of the business day e
abbrev pub by_five : ℕ → ℕ → ℕ → Bool
by_five d m e = cond (d == e) (nat_le m 1020) (nat_lt d e)

-- the number of the window that the stamp (d, m) falls in
abbrev pub window : ℕ → ℕ → ℕ
window d m = cond (by_five d m 5) 1 (cond (by_five d m 9) 2 (cond (by_five d m 47) 3 (cond (by_five d m 252) 4 5)))
