-- What the lines of a passbook mean. A line is vacant or has an entry; the lines before the first vacant one are used.
use Rattle.std.specs.Prelude.{◌≡◌, ℕ, suc, ◌-◌, ◌≤◌, Bool, true, false, cond, List, [], ◌∷◌, ◌++◌, length, take, replicate, ℤ, pos, ◌+ℤ◌, Some, None, Option, ◌==◌, slice_index_or, slice_set}
use Rattle.units.specs.Ranges.{Around}
use Rattle.book.specs.Meaning.{balance_limit}
use Rattle.book.specs.declared.entry.Entry.{Entry}

-- how many lines are used
abbrev pub used_lines : List (Option Entry) → ℕ
used_lines [] = 0
used_lines (None ∷ ls) = 0
used_lines (Some e ∷ ls) = suc (used_lines ls)

-- the balance in account a's last used line, or z where it has none
abbrev pub last_balance : ℤ → List (Option Entry) → ℕ → ℤ
last_balance z [] a = z
last_balance z (None ∷ ls) a = z
last_balance z (Some e ∷ ls) a = last_balance (cond (e.account == a) e.after.0 z) ls a

-- the balance of account a: in its last used line, or zero
abbrev pub balance_in : List (Option Entry) → ℕ → ℤ
balance_in ls a = last_balance (pos 0) ls a

-- the places: the lines from the first vacant one to the end
abbrev pub free_lines : List (Option Entry) → ℕ
free_lines ls = length ls - used_lines ls

-- the same lines with every line after the first vacant one vacated
abbrev pub vacated : List (Option Entry) → List (Option Entry)
vacated ls = take (used_lines ls) ls ++ replicate (free_lines ls) None

-- the first vacant line was filled with an account, an amount and the balance after it, and every other line left
pub record Filled (ls : List (Option Entry)) (a : ℕ) (amount : ℤ) (ls' : List (Option Entry)) : Type 0 where
  pub entry : Entry
  pub of_account : entry.account ≡ a
  pub of_amount : entry.amount.0 ≡ amount
  pub of_balance : entry.after.0 ≡ balance_in ls a +ℤ amount
  pub filled : ls' ≡ slice_set ls (used_lines ls) (Some entry)

-- no line after the first vacant one has an entry
abbrev pub Tidy : List (Option Entry) → Type 0
Tidy ls = (k : ℕ) → used_lines ls ≤ k → slice_index_or ls k None ≡ None

-- of two balances each is within the limit, and so is the one that a test picks
pick_around : (b : Bool) (x y : ℤ) → Around balance_limit x → Around balance_limit y → Around balance_limit (cond b x y)
pick_around true x y h k = h
pick_around false x y h k = k

last_around : (z : ℤ) (ls : List (Option Entry)) (a : ℕ) → Around balance_limit z → Around balance_limit (last_balance z ls a)
last_around z [] a h = h
last_around z (None ∷ ls) a h = h
last_around z (Some e ∷ ls) a h = last_around (cond (e.account == a) e.after.0 z) ls a (pick_around (e.account == a) e.after.0 z e.after_ok h)

-- every balance lies within the limit, since that of every line does
pub balance_around : (ls : List (Option Entry)) (a : ℕ) → Around balance_limit (balance_in ls a)
balance_around ls a = last_around (pos 0) ls a (record { le = tt }, record { le = tt })
