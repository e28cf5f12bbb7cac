-- What is seen of a row that there may be.
use Rattle.std.specs.Prelude.{◌≡◌, Some, None, Option}

-- of no row nothing is held, and of a row a value that the view gives of it
abbrev pub ViewOf : {R T : Type 0} → (R → T → Type 0) → Option R → Option T → Type 0
ViewOf view None held = held ≡ None
ViewOf view (Some r) None = ⊥
ViewOf view (Some r) (Some v) = view r v
