use Rattle.std.proofs.Common.{◌≡◌, ◌++◌, ◌∷◌, [], length, drop, eqb, sym, ap, ◌∙◌, rules, tests}
use Rattle.std.proofs.lemmas.Iterator.Splits.{YieldsList-from_slice_split}
use Rattle.std.proofs.lemmas.List.{length_push}
use Rattle.format.specs.Fields.{fields_of, numbers_in}
use Rattle.format.specs.Table.{by_word}
use Rattle.format.proofs.Fields.{after, all_read, at_end, at_field, no_number, then_fields}
use Rattle.format.proofs.Words.{of_all, too_many}
use Rattle.format.proofs.line.call_of.Goals as goal

pub returns : goal.returns
returns c =
    let fields = at_end (YieldsList-from_slice_split _ (λ b. eqb b 44) c.args.text.now c.split-fields.ensures.rest c.split-fields.ensures.done c.split-fields.ensures.closure (λ x b q k. search (rules, tests))) _ _ _ _ c.in_ok-word.was c.next.ensures.steps c.into_iter-field-iterator.ensures.into_iter_gives _ _ c.loop-field.yielded_by _ _ c.next-in-loop-field.ensures.steps c.in-None.is in
    c.called.ensures
    ∙ ap (by_word c.in_ok-word.word.now) c.as_slice.ensures.value
    ∙ sym (of_all _ _ _ fields.0 (sym c.loop-field.invariant.2 ∙ all_read c.loop-field.numbers.items _ fields.1))

pub returns-in_err-number : goal.returns-in_err-number
returns-in_err-number c =
    let fields = at_field (YieldsList-from_slice_split _ (λ b. eqb b 44) c.args.text.now c.split-fields.ensures.rest c.split-fields.ensures.done c.split-fields.ensures.closure (λ x b q k. search (rules, tests))) _ _ _ _ c.in_ok-word.was c.next.ensures.steps c.into_iter-field-iterator.ensures.into_iter_gives _ _ c.loop-field.yielded_by _ _ c.next-in-loop-field.ensures.steps _ c.in-Some.is in
    c.from_residual-in_err-number.ensures ∙ sym (of_all _ _ _ fields.0 (sym c.loop-field.invariant.2 ∙ no_number c.loop-field.numbers.items _ _ _ fields.1 c.in_err-number.ensures))

pub returns-in_err-ok : goal.returns-in_err-ok
returns-in_err-ok c =
    let fields = at_field (YieldsList-from_slice_split _ (λ b. eqb b 44) c.args.text.now c.split-fields.ensures.rest c.split-fields.ensures.done c.split-fields.ensures.closure (λ x b q k. search (rules, tests))) _ _ _ _ c.in_ok-word.was c.next.ensures.steps c.into_iter-field-iterator.ensures.into_iter_gives _ _ c.loop-field.yielded_by _ _ c.next-in-loop-field.ensures.steps _ c.in-Some.is in
    let full : length c.loop-field.numbers.items ≡ 99 = search rules in
    let read = then_fields c.loop-field.numbers.items c.in_ok-number.field-0 _ _ _ fields.1 c.in_ok-number.ensures in
    c.from_residual-in_err-ok.ensures
    ∙ sym (of_all _ c.in_ok-word.word.now _ fields.0 (sym c.loop-field.invariant.2 ∙ read) ∙ too_many c.in_ok-word.word.now c.loop-field.numbers.items c.in_ok-number.field-0 _ full)

pub loop-field-preserved : goal.loop-field-preserved
loop-field-preserved c =
    let fields = at_field (YieldsList-from_slice_split _ (λ b. eqb b 44) c.args.text.now c.split-fields.ensures.rest c.split-fields.ensures.done c.split-fields.ensures.closure (λ x b q k. search (rules, tests))) _ _ _ _ c.in_ok-word.was c.next.ensures.steps c.into_iter-field-iterator.ensures.into_iter_gives _ _ c.loop-field.yielded_by _ _ c.next-in-loop-field.ensures.steps _ c.in-Some.is in
    let read = then_fields c.loop-field.numbers.items c.in_ok-number.field-0 _ _ _ fields.1 c.in_ok-number.ensures in
    let pushed : c.try_push.new.self.items ≡ c.loop-field.numbers.items ++ c.in_ok-number.field-0 ∷ [] = search rules in (
      search rules,
      search rules,
      ap (λ xs. after xs (numbers_in (drop (length (c.loop-field.yielded ++ c.in-Some.field ∷ [])) (drop 1 (fields_of c.args.text.now))))) pushed
          ∙ ap (λ n. after (c.loop-field.numbers.items ++ c.in_ok-number.field-0 ∷ []) (numbers_in (drop n (drop 1 (fields_of c.args.text.now))))) (length_push c.loop-field.yielded c.in-Some.field)
          ∙ sym read
          ∙ c.loop-field.invariant.2,
    )
