-- The word of a line among others, and that no word takes more numbers than are held.
use Rattle.std.proofs.Common.{◌≡◌, ℕ, suc, ◌<◌, ◌≤◌, true, false, cond, List, [], ◌∷◌, ◌++◌, length, drop, ℤ, Some, None, Option, sym, refl, ap, ◌∙◌, arith, length-append, lit≤}
use Rattle.std.proofs.lemmas.Bool.{ne_eqb}
use Rattle.std.proofs.lemmas.Slice.Eq.{HasBytesAt, text_from_reads}
use Rattle.std.specs.Str.{bytes_eq}
use Rattle.format.specs.declared.call.Call.{Call}
use Rattle.format.specs.Fields.{numbers_in}
use Rattle.format.specs.Lines.{of_fields, of_numbers}
use Rattle.format.specs.Table.{by_row, by_word, contract_line, facility_line, four, eight, six, two, house_line, housed, interval_line, last, load_line, next, npsc_line, participants_of, preliminary_line, vesting_line, withdraw_line, words}
use Rattle.format.proofs.Fields.{after}

-- a word that has the bytes of another says what the other says
pub says : {r : Option Call} (ns : List ℤ) (w p : List ℕ) → length w ≡ length p → HasBytesAt w 0 p → r ≡ by_word p ns → r ≡ by_word w ns
says ns w p long bytes e = e ∙ ap (λ v. by_word v ns) (sym (text_from_reads w p long bytes))

-- what is made of numbers is nothing where they are more than that many
abbrev Ends : ℕ → (List ℤ → Option Call) → Type 0
Ends n f = (ns : List ℤ) → n < length ns → f ns ≡ None

last_ends : (s : Call) → Ends 0 (last s)
last_ends s [] h = absurd (omega arith)
last_ends s (a ∷ ns) h = refl

next_ends : (n : ℕ) (f : ℤ → List ℤ → Option Call) → ((a : ℤ) → Ends n (f a)) → Ends (suc n) (next f)
next_ends n f each [] h = refl
next_ends n f each (a ∷ ns) h = each a ns (omega arith)

two_ends : (f : ℤ → ℤ → Call) → Ends 2 (two f)
two_ends f = next_ends 1 _ (λ a. next_ends 0 _ (λ b. last_ends (f a b)))

four_ends : (f : ℤ → ℤ → ℤ → ℤ → Call) → Ends 4 (four f)
four_ends f = next_ends 3 _ (λ a. next_ends 2 _ (λ b. two_ends (f a b)))

six_ends : (f : ℤ → ℤ → ℤ → ℤ → ℤ → ℤ → Call) → Ends 6 (six f)
six_ends f = next_ends 5 _ (λ a. next_ends 4 _ (λ b. four_ends (f a b)))

eight_ends : (f : ℤ → ℤ → ℤ → ℤ → ℤ → ℤ → ℤ → ℤ → Call) → Ends 8 (eight f)
eight_ends f = next_ends 7 _ (λ a. next_ends 6 _ (λ b. six_ends (f a b)))

housed_ends : (n k o : ℤ) → Ends 96 (λ ns. housed n k o (participants_of ns))
housed_ends n k o [] h = absurd (omega arith)
housed_ends n k o (a ∷ ns) h = rw (ne_eqb (length (a ∷ ns)) 96 (λ e. omega (arith, e))) refl

house_ends : Ends 99 house_line
house_ends = next_ends 98 _ (λ n. next_ends 97 _ (λ k. next_ends 96 _ (λ o. housed_ends n k o)))

-- each row ends before more than 99 numbers
abbrev AllEnd : List (List ℕ × (List ℤ → Option Call)) → Type 0
AllEnd [] = Unit {0}
AllEnd (row ∷ rows) = Ends 99 row.1 × AllEnd rows

by_row_ends : (rows : List (List ℕ × (List ℤ → Option Call))) (w : List ℕ) → AllEnd rows → Ends 99 (by_row rows w)
by_row_ends [] w h ns more = refl
by_row_ends (row ∷ rows) w h ns more =
    elim (bytes_eq w row.0) as (λ b. cond b (row.1 ns) (by_row rows w ns) ≡ None) [ true ↦ h.0 ns more | false ↦ by_row_ends rows w h.1 ns more ]

-- what ends before fewer ends before more
sooner : (n : ℕ) (f : List ℤ → Option Call) → n ≤ 99 → Ends n f → Ends 99 f
sooner n f le h ns more = h ns (omega arith)

-- no word makes a call of more than 99 numbers
too_long : (w : List ℕ) → Ends 99 (by_word w)
too_long w =
    by_row_ends words w (
      house_ends,
      (
        sooner 4 interval_line (lit≤ tt) (four_ends _),
        (
          sooner 8 facility_line (lit≤ tt) (eight_ends _),
          (
            sooner 7 load_line (lit≤ tt) (next_ends 6 _ (λ d. six_ends _)),
            (
              sooner 8 contract_line (lit≤ tt) (eight_ends _),
              (
                sooner 6 vesting_line (lit≤ tt) (six_ends _),
                (
                  sooner 4 preliminary_line (lit≤ tt) (four_ends _),
                  (
                    sooner 2 withdraw_line (lit≤ tt) (two_ends _),
                    (sooner 1 npsc_line (lit≤ tt) (next_ends 0 _ (λ p. last_ends _)), tt),
                  ),
                ),
              ),
            ),
          ),
        ),
      ),
    )

-- a word makes nothing of numbers that go on where 99 were read
pub too_many : (w : List ℕ) (xs : List ℤ) (v : ℤ) (o : Option (List ℤ)) → length xs ≡ 99 → of_numbers w (after (xs ++ v ∷ []) o) ≡ None
too_many w xs v None full = refl
too_many w xs v (Some ns) full = too_long w (xs ++ v ∷ [] ++ ns) (simp length-append (omega (arith, full)))

-- what fields say, from the word and the numbers after it
pub of_all : (all : List (List ℕ)) (w : List ℕ) (o : Option (List ℤ)) → all ≡ w ∷ drop 1 all → numbers_in (drop 1 all) ≡ o → of_fields all ≡ of_numbers w o
of_all all w o e n = ap of_fields e ∙ ap (of_numbers w) n
