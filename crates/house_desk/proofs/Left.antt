-- What an iterator over lines leaves of them.
use Rattle.std.proofs.Common.{◌≡◌, ℕ, zero, suc, List, [], ◌∷◌, drop, sym, ◌∙◌}

-- some of the items are gone through, and the others are left
abbrev pub Left : {A : Type 0} → List A → List A → Type 0
Left all left = (n : ℕ) × (left ≡ drop n all)

-- one item less
one_less : {A : Type 0} (n : ℕ) (all left : List A) (x : A) → x ∷ left ≡ drop n all → left ≡ drop (suc n) all
one_less zero [] left x e = cc
one_less zero (y ∷ all) left x e = cc
one_less (suc n) [] left x e = cc
one_less (suc n) (y ∷ all) left x e = one_less n all left x e

-- after one more item
pub left_less : {A : Type 0} (all before left : List A) (x : A) → Left all before → before ≡ x ∷ left → Left all left
left_less all before left x l e = (suc l.0, one_less l.0 all left x (sym e ∙ l.1))

-- at the end
pub left_none : {A : Type 0} (all before left : List A) → Left all before → before ≡ [] → left ≡ [] → Left all left
left_none all before left l e f = (l.0, f ∙ sym e ∙ l.1)
