use Rattle.std.proofs.Common.{◌≡◌, ℕ, zero, suc, ◌<◌, Bool, true, false, ◌&&◌, List, [], ◌∷◌, ◌++◌, map, length, get_or, take, ℤ, pos, negsuc, nat_abs, sym, refl, ap, ◌∙◌, subst, arith, w64, to_z, of_z, rules}
use Rattle.std.proofs.lemmas.List.{length-set, map-append, take_all, take_more, take_more_set}
use Rattle.std.proofs.lemmas.Int.{ints}
use Rattle.std.proofs.lemmas.Bool.{and_from, and_parts, false≢true}
use Rattle.units.specs.Ranges.{Account, inside, account_range}
use Rattle.units.specs.Refusals.{refusal_number}
use Rattle.house.specs.State.{all_participants}
use Rattle.house.proofs.Answering.{handed_on, outside, within}
use Rattle.house.proofs.house.taken_participants.Goals as goal

-- one more at the end
more_participants : (zs : List ℤ) (z : ℤ) → all_participants zs ≡ true → inside account_range z ≡ true → all_participants (zs ++ z ∷ []) ≡ true
more_participants [] z h e = and_from (inside account_range z) true e refl
more_participants (y ∷ ys) z h e = go (inside account_range y) (more_participants ys z) h
  where
    go : (b : Bool) → (all_participants ys ≡ true → inside account_range z ≡ true → all_participants (ys ++ z ∷ []) ≡ true) → (b && all_participants ys) ≡ true → (b && all_participants (ys ++ z ∷ [])) ≡ true
    go true less t = less t e
    go false less t = cc

-- one that is none
no_participant : (zs : List ℤ) (i : ℕ) → i < length zs → inside account_range (get_or zs i (pos 0)) ≡ false → false ≡ all_participants zs
no_participant [] i l e = absurd (omega arith)
no_participant (z ∷ zs) zero l e = rw e refl
no_participant (z ∷ zs) (suc i) l e = go (inside account_range z) (no_participant zs i (omega arith) e)
  where
    go : (b : Bool) → false ≡ all_participants zs → false ≡ (b && all_participants zs)
    go true t = t
    go false t = refl

-- each of them is one
account_given : (z : ℤ) → inside account_range z ≡ true → Account (nat_abs z)
account_given (pos n) e = (grind (arith, ints), grind (arith, ints))
account_given (negsuc n) e = absurd (false≢true e)

each_participant : (zs : List ℤ) (k : ℕ) → all_participants zs ≡ true → k < length zs → Account (get_or (map nat_abs zs) k 0)
each_participant [] k h l = absurd (omega arith)
each_participant (z ∷ zs) zero h l = account_given z (and_parts (inside account_range z) (all_participants zs) h).0
each_participant (z ∷ zs) (suc k) h l = each_participant zs k (and_parts (inside account_range z) (all_participants zs) h).1 (omega arith)

pub returns-in_err-participants : goal.returns-in_err-participants
returns-in_err-participants c =
    let given = c.args.given.now in
    let k = c.loop-k.k in
    let bad : inside account_range (get_or given k (pos 0)) ≡ false = search rules in
    record {
      answer = handed_on c.from_residual.result c.in_err-participants.field-0.0 c.from_residual.ensures.1 ∙ ap refusal_number c.in_err-participants.ensures.made ∙ outside (all_participants given) (no_participant given k (omega arith) bad);
      participants = search rules;
      within = search rules;
    }

pub loop-k-preserved : goal.loop-k-preserved
loop-k-preserved c =
    let given = c.args.given.now in
    let k = c.loop-k.k in
    let before = c.loop-k.participants in
    let lt : k < length given = omega arith in
    let room : k < length before = omega (arith, c.loop-k.invariant.0) in
    let good : inside account_range (get_or given k (pos 0)) ≡ true = search rules in
    let value : nat_abs (to_z w64 (of_z w64 c.in_ok-participants.field-0)) ≡ nat_abs (get_or given k (pos 0)) = search rules in (
      length-set before k _ ∙ c.loop-k.invariant.0,
      ap all_participants (take_more given k (pos 0) lt) ∙ more_participants (take k given) (get_or given k (pos 0)) c.loop-k.invariant.1 good,
      take_more_set before k _ room ∙ ap (λ xs. xs ++ nat_abs (to_z w64 (of_z w64 c.in_ok-participants.field-0)) ∷ []) c.loop-k.invariant.2 ∙ ap (λ v. map nat_abs (take k given) ++ v ∷ []) value
          ∙ sym (ap (map nat_abs) (take_more given k (pos 0) lt) ∙ map-append nat_abs (take k given) (get_or given k (pos 0) ∷ [])),
    )

pub returns : goal.returns
returns c =
    let given = c.args.given.now in
    let k = c.loop-k.k in
    let all : take k given ≡ given = take_all k given (omega arith) in
    let each : all_participants given ≡ true = ap all_participants (sym all) ∙ c.loop-k.invariant.1 in
    let same : c.loop-k.participants ≡ map nat_abs given = sym (take_all k c.loop-k.participants (omega (arith, c.loop-k.invariant.0))) ∙ c.loop-k.invariant.2 ∙ ap (map nat_abs) all in
    record {
      answer = within (all_participants given) (sym each);
      participants = same;
      within = λ j h. subst (λ ps. Account (get_or ps j 0)) (sym same) (each_participant given j each (omega arith));
    }
