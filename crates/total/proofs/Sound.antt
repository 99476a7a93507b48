-- Places that are empty, or whose hold is within its limits and fits: what is weighed of each is its weight moment.
use mathlib.Core.Path.{◌≡◌, refl}
use mathlib.Core.Bool.{Bool, true, false}
use Prim.Native.Nat.{◌≤◌, ◌^◌}
use native.Mathlib.Omega.{arith}
use borrow.Author.Tests.{ltb-false}
use Rattle.record.specs.declared.Hold.{Hold}
use Rattle.limits.specs.Limits.{hold_limits}
use Rattle.grain.specs.Sum.{hold_fits, weight_moment, weighed_moment, weighed_of}
use Rattle.grain.proofs.Weights.{hold_within, weight_le, nothing_weighs}
use Rattle.condition.specs.Condition.{is_held}

pub record HoldSound (h : Hold) : Type 0 where
  pub limits : hold_limits h ≡ true
  pub fits : hold_fits h ≡ true

abbrev pub PlaceSound : Hold → Type 0
PlaceSound h = is_held h ≡ true → HoldSound h

pub sound_weighed : (h : Hold) → HoldSound h → weighed_moment (weighed_of h) ≡ weight_moment h
unfolding weighed_of
sound_weighed h s = rw (s.limits, s.fits) refl

-- a place without parts is not within the limits of a hold
empty_by : (h : Hold) (x : Bool) → h.head.count ≡ 0 → hold_limits h ≡ x → weighed_moment (weighed_of h) ≡ 0
unfolding weighed_of
empty_by h true e l = absurd (omega (arith, (hold_within h l).low))
empty_by h false e l = rw l refl

module _ (h : Hold) where
  weighed_by : (x : Bool) → is_held h ≡ x → PlaceSound h → weighed_moment (weighed_of h) ≡ weight_moment h
  weighed_by true e s = sound_weighed h (s e)
  weighed_by false e s =
      let n : h.head.count ≡ 0 = omega (arith, ltb-false 0 h.head.count e) in
      rw (empty_by h (hold_limits h) n refl, nothing_weighs h n) refl

  le_by : (x : Bool) → is_held h ≡ x → PlaceSound h → weight_moment h ≤ 2 ^ 35
  le_by true e s = weight_le h (s e).limits
  le_by false e s = omega (arith, nothing_weighs h (omega (arith, ltb-false 0 h.head.count e)))

  module _ (s : PlaceSound h) where
    pub place_weighed : weighed_moment (weighed_of h) ≡ weight_moment h
    place_weighed = weighed_by (is_held h) refl s

    pub place_le : weight_moment h ≤ 2 ^ 35
    place_le = le_by (is_held h) refl s
