use Rattle.std.proofs.Common.{refl}
use Rattle.house_desk.proofs.Left.{left_less, left_none}
use Rattle.house_desk.proofs.opening.open_house.Goals as goal

pub loop-line-init : goal.loop-line-init
loop-line-init c = (0, refl)

pub loop-line-preserved-in-Ok-None : goal.loop-line-preserved-in-Ok-None
loop-line-preserved-in-Ok-None c = left_less _ _ _ _ c.loop-line.invariant c.in-Some.ensures.steps

pub returns-in_err-println-in-Ok-Some : goal.returns-in_err-println-in-Ok-Some
returns-in_err-println-in-Ok-Some c = record { left = left_less _ _ _ _ c.loop-line.invariant c.in-Some.ensures.steps }

pub returns-in-Ok-Some : goal.returns-in-Ok-Some
returns-in-Ok-Some c = record { left = left_less _ _ _ _ c.loop-line.invariant c.in-Some.ensures.steps }

pub loop-line-preserved : goal.loop-line-preserved
loop-line-preserved c = left_less _ _ _ _ c.loop-line.invariant c.in-Some.ensures.steps

pub returns-in_err-println-in-Err : goal.returns-in_err-println-in-Err
returns-in_err-println-in-Err c = record { left = left_less _ _ _ _ c.loop-line.invariant c.in-Some.ensures.steps }

pub returns : goal.returns
returns c = record { left = left_none _ _ _ c.loop-line.invariant c.in_default.ensures.steps.0 c.in_default.ensures.steps.1 }
