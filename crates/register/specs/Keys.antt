-- Keys by their numbers: a day and an interval, and what tells the rows of one half hour apart.
use Rattle.std.specs.Prelude.{ℕ, Bool, true, false, ◌&&◌, List, [], ◌∷◌, ◌==◌}

-- the numbers of a key: its half hour, then nothing, or facility, account, contract, or account and tranche
pub record Numbers : Type 0 where
  pub day : ℕ
  pub interval : ℕ
  pub more : List ℕ

-- whether two lists hold the same numbers
abbrev pub same_list : List ℕ → List ℕ → Bool
same_list [] [] = true
same_list [] (y ∷ ys) = false
same_list (x ∷ xs) [] = false
same_list (x ∷ xs) (y ∷ ys) = x == y && same_list xs ys

-- whether a key is of that day and interval
abbrev pub of_half_hour : ℕ → ℕ → Numbers → Bool
of_half_hour d t k = k.day == d && k.interval == t

-- whether two keys are the same
abbrev pub same_key : Numbers → Numbers → Bool
same_key k q = of_half_hour q.day q.interval k && same_list k.more q.more

-- the key of an interval
abbrev pub interval_key : ℕ → ℕ → Numbers
interval_key d t = record { day = d; interval = t; more = [] }

-- the key of the facility, the load's account or the contract of that number
abbrev pub numbered_key : ℕ → ℕ → ℕ → Numbers
numbered_key d t n = record { day = d; interval = t; more = n ∷ [] }

-- the key of a vesting row: its account and tranche
abbrev pub tranche_key : ℕ → ℕ → ℕ → ℕ → Numbers
tranche_key d t a n = record { day = d; interval = t; more = a ∷ n ∷ [] }
