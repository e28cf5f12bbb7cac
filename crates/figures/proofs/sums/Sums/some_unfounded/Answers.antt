use Rattle.std.proofs.Common.{◌≡◌, ℕ, zero, suc, ◌+◌, Bool, true, false, ◌||◌, [], ◌∷◌, ◌++◌, sym, refl, ap, ◌∙◌, add-zero, arith, rules}
use Rattle.std.specs.List.{list_any, range_with_len}
use Rattle.std.proofs.lemmas.Iterator.{YieldsList-from_range}
use Rattle.std.proofs.lemmas.Iterator.Search.{any_from_yields_List}
use Rattle.std.proofs.lemmas.List.Folds.{list_any-append}
use Rattle.units.specs.Ranges.{accounts}
use Rattle.formulas.specs.Figures.{unfounded}
use Rattle.figures.specs.Meaning.{basis_of}
use Rattle.formulas.specs.Sums.{some_of}
use Rattle.formulas.proofs.Sums.{some_more, some_none}
use Rattle.figures.proofs.sums.Sums.some_unfounded.Goals as goal

range_more : (a n : ℕ) → range_with_len a (suc n) ≡ range_with_len a n ++ (a + n) ∷ []
range_more a zero = ap (λ k. k ∷ []) (sym (add-zero a))
range_more a (suc n) = let next : a + 1 + n ≡ a + suc n = omega arith in ap (λ ks. a ∷ ks) (range_more (a + 1) n ∙ ap (λ k. range_with_len (a + 1) n ++ k ∷ []) next)

either : (x y : Bool) → (x || (y || false)) ≡ (x || y)
either true y = refl
either false true = refl
either false false = refl

-- a test of some place, as a test of some account
some_place : (n : ℕ) (t : ℕ → Bool) → list_any (λ k. t (suc k)) (range_with_len 0 n) ≡ some_of n t
some_place zero t = sym (some_none t)
some_place (suc n) t =
    ap (list_any (λ k. t (suc k))) (range_more 0 n) ∙ list_any-append (λ k. t (suc k)) (range_with_len 0 n) ((0 + n) ∷ [])
    ∙ either _ (t (suc (0 + n))) ∙ ap (λ b. b || t (suc (0 + n))) (some_place n t) ∙ ap (λ k. some_of n t || t (suc k)) (let e : 0 + n ≡ n = omega arith in e) ∙ sym (some_more n t)

pub returns : goal.returns
returns c =
    let t = unfounded (basis_of c.args.self.now.injections.inputs.now) in
    any_from_yields_List (λ k. t (suc k)) _ _ _ c.any.ensures.ran (YieldsList-from_range 0 accounts accounts refl refl) (λ x b q e. (search (rules, e), search (rules, e))) ∙ some_place accounts t
