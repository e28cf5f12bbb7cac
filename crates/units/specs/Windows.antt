-- The windows by number.
use Rattle.std.specs.Prelude.{ℕ}
use Rattle.units.specs.declared.window.Window.{Window}
use Rattle.units.specs.declared.window.Window.TheVariants.{First, Second, Third, Fourth, Fifth}

-- the number of each window
abbrev pub window_number : Window → ℕ
window_number First = 1
window_number Second = 2
window_number Third = 3
window_number Fourth = 4
window_number Fifth = 5
