use Rattle.std.proofs.Common.{◌≡◌, ℕ, ◌+◌, ◌<◌, Bool, true, false, cond, not, List, [], ◌∷◌, ◌++◌, map, length, get_or, take, drop, ℤ, pos, ◌+ℤ◌, is_some, Some, None, Ok, Err, MatchOption, Option, Result, sym, ap, ◌∙◌, arith, rules}
use Rattle.std.proofs.lemmas.List.{drop_more, get_or-map, length-map, map_more, take_all, take-append-drop, take-map}
use Rattle.std.specs.Option.{ok_or}
use Rattle.units.specs.Checks.{first_met}
use Rattle.units.specs.Ranges.{accounts, inside}
use Rattle.units.specs.Refusals.{refusal_number}
use Rattle.units.specs.declared.quantity.Money.{Money}
use Rattle.units.specs.declared.refusal.Refusal.{Refusal}
use Rattle.units.specs.declared.refusal.Refusal.TheVariants.{BalanceBeyondLimit}
use Rattle.figures.specs.declared.line.Line.{Line}
use Rattle.house.specs.Open.{check}
use Rattle.house.specs.State.{house_says}
use Rattle.house.proofs.Answering.{handed_on}
use Rattle.statement.specs.Participants.{added, credited, sum_range}
use Rattle.statement.proofs.participants.sum_credited.Goals as goal

-- amounts after others
added_after : (s t : ℤ) (zs ys : List ℤ) → added s zs ≡ Some t → added s (zs ++ ys) ≡ added t ys
added_after s t [] ys e = let z : s ≡ t = cc in ap (λ x. added x ys) z
added_after s t (z ∷ zs) ys e = go (inside sum_range (s +ℤ z)) (added_after (s +ℤ z) t zs ys) e
  where
    go : (b : Bool) → (added (s +ℤ z) zs ≡ Some t → added (s +ℤ z) (zs ++ ys) ≡ added t ys) → cond b (added (s +ℤ z) zs) None ≡ Some t → cond b (added (s +ℤ z) (zs ++ ys)) None ≡ added t ys
    go true less f = less f
    go false less f = cc

-- one more amount, within the limit and beyond it
one_more : (s t z : ℤ) (zs : List ℤ) → added s zs ≡ Some t → inside sum_range (t +ℤ z) ≡ true → added s (zs ++ z ∷ []) ≡ Some (t +ℤ z)
one_more s t z zs e h = added_after s t zs (z ∷ []) e ∙ ap (λ b. cond b (Some (t +ℤ z)) None) h

beyond : (s t z : ℤ) (zs ys : List ℤ) → added s zs ≡ Some t → inside sum_range (t +ℤ z) ≡ false → added s (zs ++ z ∷ ys) ≡ None
beyond s t z zs ys e h = added_after s t zs (z ∷ ys) e ∙ ap (λ b. cond b (added (t +ℤ z) ys) None) h

split_at : {X : Type 0} (xs : List X) (k : ℕ) (d : X) → k < length xs → xs ≡ take k xs ++ get_or xs k d ∷ drop (k + 1) xs
split_at xs k d l = sym (take-append-drop k xs) ∙ ap (λ r. take k xs ++ r) (drop_more xs k d l)

-- what a sum within the limit answers, refused beyond it
beyond_limit : (o : Option Money) (e : Refusal) (b : Bool) (s : ℤ) → ◌≡◌ {A = Result Money Refusal} (Err e) (ok_or o BalanceBeyondLimit) → MatchOption o (b ≡ false) (λ m. (m.0 ≡ s) × (b ≡ true)) → (e ≡ BalanceBeyondLimit) × (b ≡ false)
beyond_limit None e b s v m = (cc, m)
beyond_limit (Some x) e b s v m = cc

within_limit : (o : Option Money) (x : Money) (b : Bool) (s : ℤ) → ◌≡◌ {A = Result Money Refusal} (Ok x) (ok_or o BalanceBeyondLimit) → MatchOption o (b ≡ false) (λ m. (m.0 ≡ s) × (b ≡ true)) → (x.0 ≡ s) × (b ≡ true)
within_limit None x b s v m = cc
within_limit (Some y) x b s v m = let same : x ≡ y = cc in (ap (λ (z : Money). z.0) same ∙ m.0, m.1)

-- the amount of the line at an index
amount_at : (ps : List ℕ) (p : ℕ) (lines : List Line) (k : ℕ) (l : Line) → k < length lines → l ≡ get_or lines k l → get_or (map (credited ps p) lines) k (pos 0) ≡ credited ps p l
amount_at ps p lines k l lt e = get_or-map (credited ps p) lines k l (pos 0) lt ∙ ap (credited ps p) (sym e)

pub returns-in_err-sum : goal.returns-in_err-sum
returns-in_err-sum c =
    let ps = (house_says c.args.house.now).participants in
    let lines = take accounts c.args.lines.now in
    let zs = map (credited ps c.args.participant) lines in
    let k = c.loop-line.line-index in
    let s = c.loop-line.sum.0 in
    let a = c.credited.result.0 in
    let lt : k < length lines = c.loop-line-test.true in
    let n = length-map lines (credited ps c.args.participant) in
    let same : a ≡ get_or zs k (pos 0) = c.credited.ensures ∙ sym (amount_at ps c.args.participant lines k c.line-item.result lt c.line-item.is) in
    let refused = beyond_limit c.plus_within.result c.in_err-sum.field-0.0 (inside sum_range (s +ℤ a)) (s +ℤ a) c.in_err-sum.ensures.value c.plus_within.ensures in
    let none : added (pos 0) zs ≡ None =
    ap (added (pos 0)) (split_at zs k (pos 0) (omega (arith, n)))
    ∙ beyond (pos 0) s (get_or zs k (pos 0)) (take k zs) (drop (k + 1) zs) (ap (added (pos 0)) (take-map (credited ps c.args.participant) k lines) ∙ c.loop-line.invariant) (ap (λ z. inside sum_range (s +ℤ z)) (sym same) ∙ refused.1) in
    record {
      answer = handed_on c.from_residual.result c.in_err-sum.field-0.0 c.from_residual.ensures.1 ∙ ap refusal_number refused.0 ∙ ap (λ o. first_met (check 15 (not (is_some o)) ∷ [])) (sym none);
      value = search rules;
    }

pub loop-line-preserved : goal.loop-line-preserved
loop-line-preserved c =
    let ps = (house_says c.args.house.now).participants in
    let f = credited ps c.args.participant in
    let lines = take accounts c.args.lines.now in
    let k = c.loop-line.line-index in
    let s = c.loop-line.sum.0 in
    let a = c.credited.result.0 in
    let lt : k < length lines = c.loop-line-test.true in
    let taken = within_limit c.plus_within.result c.in_ok-sum.sum (inside sum_range (s +ℤ a)) (s +ℤ a) c.in_ok-sum.ensures.value c.plus_within.ensures in
    let more : map f (take (k + 1) lines) ≡ map f (take k lines) ++ a ∷ [] =
    map_more f lines k c.line-item.result lt ∙ ap (λ z. map f (take k lines) ++ z ∷ []) (ap f (sym c.line-item.is) ∙ sym c.credited.ensures) in
    ap (added (pos 0)) more ∙ one_more (pos 0) s a (map f (take k lines)) c.loop-line.invariant taken.1 ∙ ap Some (sym taken.0)

pub returns : goal.returns
returns c =
    let f = credited (house_says c.args.house.now).participants c.args.participant in
    let lines = take accounts c.args.lines.now in
    let all : added (pos 0) (map f lines) ≡ Some c.loop-line.sum.0 = ap (λ xs. added (pos 0) (map f xs)) (sym (take_all c.loop-line.line-index lines c.loop-line-test.false)) ∙ c.loop-line.invariant in
    record { answer = ap (λ o. first_met (check 15 (not (is_some o)) ∷ [])) (sym all); value = all }
