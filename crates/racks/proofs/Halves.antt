-- What a call on one of two racks leaves of both.
use Rattle.std.proofs.Common.{◌≡◌, ℕ, ◌<◌, ◌≤◌, Some, Ok, Err, Option, Result, ap, ◌∙◌, arith}
use Rattle.std.specs.Bool.{⊤}
use Rattle.std.proofs.lemmas.Bool.Decides.{nat_tests}
use mathlib.Core.Path.{fun_ext}
use Rattle.rack.specs.Transfers.{Answer, After, updated}
use Rattle.rack.specs.Units.{Holding, Holdings}
use Rattle.rack.specs.declared.fault.UnitFault.{UnitFault}
use Rattle.rack.specs.declared.unit.Unit.{Unit}
use Rattle.racks.specs.Sides.{side_by_side}

-- what a unit of either side has
pub on_left : {X : Type 0} (split u : ℕ) (left right : ℕ → X) → u < split → side_by_side split left right u ≡ left u
unfolding side_by_side
on_left split u left right l = grind (arith, nat_tests)

pub on_right : {X : Type 0} (split u : ℕ) (left right : ℕ → X) → split ≤ u → side_by_side split left right u ≡ right u
unfolding side_by_side
on_right split u left right l = grind (arith, nat_tests)

module _ (u : Unit) (split : ℕ) where
  -- a unit of either side that is altered
  set_left : (left right : Holdings) (h : Option Holding) → u.number < split → side_by_side split (updated left u.number h) right ≡ updated (side_by_side split left right) u.number h
  unfolding side_by_side updated
  set_left left right h l = fun_ext (λ v. grind (arith, nat_tests))

  set_right : (left right : Holdings) (h : Option Holding) → split ≤ u.number → side_by_side split left (updated right u.number h) ≡ updated (side_by_side split left right) u.number h
  unfolding side_by_side updated
  set_right left right h l = fun_ext (λ v. grind (arith, nat_tests))

  -- a call on either side
  pub left_called : (a : Answer) (left new right : Holdings) (x : Result ⊤ UnitFault) → u.number < split → After u a left new x → After u a (side_by_side split left right) (side_by_side split new right) x
  left_called (Ok e) left new right (Ok x) l is = ap (λ g. side_by_side split g right) is ∙ set_left left right (Some e.holding) l
  left_called (Ok e) left new right (Err f) l is = is
  left_called (Err f) left new right (Ok x) l is = is
  left_called (Err f) left new right (Err g) l is = (is.0, ap (λ g. side_by_side split g right) is.1)

  pub right_called : (a : Answer) (left right new : Holdings) (x : Result ⊤ UnitFault) → split ≤ u.number → After u a right new x → After u a (side_by_side split left right) (side_by_side split left new) x
  right_called (Ok e) left right new (Ok x) l is = ap (λ g. side_by_side split left g) is ∙ set_right left right (Some e.holding) l
  right_called (Ok e) left right new (Err f) l is = is
  right_called (Err f) left right new (Ok x) l is = is
  right_called (Err f) left right new (Err g) l is = (is.0, ap (λ g. side_by_side split left g) is.1)
