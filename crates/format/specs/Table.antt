-- The call that each word makes of the numbers after it.
use Rattle.std.specs.Prelude.{ℕ, cond, List, [], ◌∷◌, map, length, ℤ, pos, Some, None, codes, Option, ◌==◌}
use Rattle.std.specs.List.{range_with_len}
use Rattle.std.specs.Str.{bytes_eq}
use Rattle.format.specs.declared.call.Call.{Call}
use Rattle.format.specs.declared.call.Call.TheVariants.{House, Interval, Facility, Load, Contract, Vesting, Preliminary, Withdraw, Npsc}

-- what a first number and those after it make; none where there is none
abbrev pub next : (ℤ → List ℤ → Option Call) → List ℤ → Option Call
next f [] = None
next f (n ∷ ns) = f n ns

-- what is made where no number is left; none where one is
abbrev pub last : Call → List ℤ → Option Call
last c [] = Some c
last c (n ∷ ns) = None

-- what exactly two numbers make
abbrev pub two : (ℤ → ℤ → Call) → List ℤ → Option Call
two f = next (λ a. next (λ b. last (f a b)))

-- what exactly four numbers make
abbrev pub four : (ℤ → ℤ → ℤ → ℤ → Call) → List ℤ → Option Call
four f = next (λ a. next (λ b. two (f a b)))

-- what exactly six numbers make
abbrev pub six : (ℤ → ℤ → ℤ → ℤ → ℤ → ℤ → Call) → List ℤ → Option Call
six f = next (λ a. next (λ b. four (f a b)))

-- what exactly eight numbers make
abbrev pub eight : (ℤ → ℤ → ℤ → ℤ → ℤ → ℤ → ℤ → ℤ → Call) → List ℤ → Option Call
eight f = next (λ a. next (λ b. six (f a b)))

-- the participants of accounts 1 to 96 where each account is its own
abbrev pub each_its_own : List ℤ
each_its_own = map pos (range_with_len 1 96)

-- the participants of accounts 1 to 96: those given, one for each; where none is given, each account is its own
abbrev pub participants_of : List ℤ → Option (List ℤ)
participants_of [] = Some each_its_own
participants_of (p ∷ ps) = cond (length (p ∷ ps) == 96) (Some (p ∷ ps)) None

-- a house of those participants; none where there are none
abbrev pub housed : ℤ → ℤ → ℤ → Option (List ℤ) → Option Call
housed n k o None = None
housed n k o (Some ps) = Some (House (record { number = n; counterparty = k; operator = o; participants = ps }))

-- house,NUMBER,K,O and the participants
abbrev pub house_line : List ℤ → Option Call
house_line = next (λ n. next (λ k. next (λ o ns. housed n k o (participants_of ns))))

-- interval,DAY,INTERVAL,USEP,RATE
abbrev pub interval_line : List ℤ → Option Call
interval_line = four (λ d t u r. Interval (record { day = d; interval = t; usep = u; rate = r }))

-- facility,DAY,INTERVAL,FACILITY,ACCOUNT,MEP,IEQ,DAYS,MINUTE
abbrev pub facility_line : List ℤ → Option Call
facility_line = eight (λ d t f a p q s m. Facility (record { day = d; interval = t; facility = f; account = a; mep = p; ieq = q; days = s; minute = m }))

-- load,DAY,INTERVAL,ACCOUNT,WEQ,WFQ,DAYS,MINUTE
abbrev pub load_line : List ℤ → Option Call
load_line = next (λ d. six (λ t a w f s m. Load (record { day = d; interval = t; account = a; weq = w; wfq = f; days = s; minute = m })))

-- contract,DAY,INTERVAL,CONTRACT,SELLER,BUYER,BAQ,BWF,BIF
abbrev pub contract_line : List ℤ → Option Call
contract_line = eight (λ d t c s b q w i. Contract (record { day = d; interval = t; contract = c; seller = s; buyer = b; baq = q; bwf = w; bif = i }))

-- vesting,DAY,INTERVAL,ACCOUNT,TRANCHE,PRICE,QUANTITY
abbrev pub vesting_line : List ℤ → Option Call
vesting_line = six (λ d t a n p q. Vesting (record { day = d; interval = t; account = a; tranche = n; price = p; quantity = q }))

-- preliminary,DAY,INTERVAL,DAYS,MINUTE
abbrev pub preliminary_line : List ℤ → Option Call
preliminary_line = four (λ d t s m. Preliminary (record { day = d; interval = t; days = s; minute = m }))

-- withdraw,DAY,INTERVAL
abbrev pub withdraw_line : List ℤ → Option Call
withdraw_line = two (λ d t. Withdraw (record { day = d; interval = t }))

-- npsc,PARTICIPANT
abbrev pub npsc_line : List ℤ → Option Call
npsc_line = next (λ p. last (Npsc p))

-- each word, with what it makes of the numbers after it
abbrev pub words : List (List ℕ × (List ℤ → Option Call))
words =
    (codes "house", house_line)
    ∷ (codes "interval", interval_line)
    ∷ (codes "facility", facility_line)
    ∷ (codes "load", load_line)
    ∷ (codes "contract", contract_line)
    ∷ (codes "vesting", vesting_line)
    ∷ (codes "preliminary", preliminary_line)
    ∷ (codes "withdraw", withdraw_line)
    ∷ (codes "npsc", npsc_line)
    ∷ []

-- what the first row of that word makes of the numbers; none where no row has it
abbrev pub by_row : List (List ℕ × (List ℤ → Option Call)) → List ℕ → List ℤ → Option Call
by_row [] w ns = None
by_row (row ∷ rows) w ns = cond (bytes_eq w row.0) (row.1 ns) (by_row rows w ns)

-- what a word makes of the numbers after it
abbrev pub by_word : List ℕ → List ℤ → Option Call
by_word w ns = by_row words w ns
