use Rattle.std.proofs.Common.{◌≡◌, refl, ◌⊎◌, inl, inr, ℕ, ◌+◌, ◌-◌, ◌<◌, ◌≤◌, List, [], Some, None, Option, Bor, length, get_or, take, drop, ap, sym, ◌∙◌, arith}
use Rattle.std.specs.Option.{MatchOption, unwrap_or}
use Rattle.lines.specs.Lines.{after_line_of}
use Rattle.lines.proofs.Cuts.{nothing_after, rest_cut}
use Rattle.lines.proofs.line.after_line.Goals as goal

-- what stands from one past a place on, or nothing where there is none
got : (l : List ℕ) (p : ℕ) (d : Bor (List ℕ)) (o : Option (Bor (List ℕ))) → ((k : ℕ) → k < p → get_or l k 0 ≡ 10 → ⊥) → (p < length l → get_or l p 0 ≡ 10) → p ≤ length l → d.now ≡ [] → MatchOption o ((length l < p + 1) ⊎ (length l < length l)) (λ x. (p + 1 ≤ length l) × (length l ≤ length l) × (x.now ≡ take (length l - (p + 1)) (drop (p + 1) l)) × (length x.now + (p + 1) ≡ length l)) → (unwrap_or o d).now ≡ after_line_of l
got l p d None before found within e h = e ∙ sym (nothing_after l p before (elim h [ inl a ↦ omega arith | inr b ↦ absurd (omega arith) ]))
got l p d (Some x) before found within e h = let lt : p < length l = omega (arith, h.0) in h.2 ∙ rest_cut l p before lt (found lt)

pub returns-clause-value : goal.returns-clause-value
returns-clause-value c = ap (λ r. r.now) c.unwrap_or.ensures ∙ got c.args.text.now c.place_of-end.result _ c.get.result c.place_of-end.ensures.before c.place_of-end.ensures.found c.place_of-end.ensures.within refl c.get.ensures.lookup.0
