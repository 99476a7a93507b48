-- Holds that are the same weigh the same.
use mathlib.Core.Path.{◌≡◌, sym, ◌∙◌, ap}
use mathlib.Core.Logic.{⊎_elim}
use Prim.Native.Nat.{ℕ, ◌≤◌, ◌<◌}
use native.Mathlib.Nat.{eq-zero-or-pos}
use lib.ListN.{length, get_or}
use lib.Seq.{length-take-le, get_or-take}
use Rattle.whole.specs.Lists.{sum_of}
use Rattle.record.specs.declared.Mode.{Mode}
use Rattle.record.specs.declared.Mode.TheVariants.{Trimmed, Voided, Partial}
use Rattle.record.specs.declared.Part.{Part}
use Rattle.record.specs.declared.Head.{Head}
use Rattle.record.specs.declared.Hold.{Hold}
use Rattle.record.specs.Filler.{no_part}
use Rattle.record.specs.Held.{parts_of}
use Rattle.grain.specs.Figures.{total}
use Rattle.grain.specs.Slack.{slack_volume}
use Rattle.grain.specs.Sum.{part_moment, hold_moment, weight_moment}
use Rattle.grain.proofs.Totals.{total_same, sum_total}
use Rattle.grain.proofs.Weights.{nothing_weighs}
use Rattle.sending.specs.Sending.{SamePart, SameHold}

same_moment : (m : Mode) (p q : Part) → SamePart m p q → part_moment m q ≡ part_moment m p
unfolding part_moment slack_volume
same_moment Trimmed p q s = rw (s.0, s.1)
same_moment Voided p q s = rw (s.0, s.1)
same_moment Partial p q s = rw (s.0, s.1)

-- the parts that count, added up by place
parts_sum : (m : Mode) (h : Hold) → h.head.count ≤ length h.parts → sum_of (part_moment m) (parts_of h) ≡ total h.head.count (λ i. part_moment m (get_or h.parts i no_part))
parts_sum m h l =
    let n = length-take-le h.head.count h.parts l in
    sum_total (part_moment m) (parts_of h) no_part
    ∙ ap (λ (k : ℕ). total k (λ i. part_moment m (get_or (parts_of h) i no_part))) n
    ∙ total_same h.head.count _ _ (λ i p. ap (part_moment m) (get_or-take h.head.count h.parts i no_part p))

module _ (h k : Hold) (s : SameHold h k) (lh : h.head.count ≤ length h.parts) (lk : k.head.count ≤ length k.parts) where
  same_parts : (m : Mode) → m ≡ h.head.mode → sum_of (part_moment m) (parts_of k) ≡ sum_of (part_moment m) (parts_of h)
  same_parts m e =
      parts_sum m k lk
      ∙ ap (λ (n : ℕ). total n (λ i. part_moment m (get_or k.parts i no_part))) s.count
      ∙ total_same h.head.count _ _ (λ i p. same_moment m (get_or h.parts i no_part) (get_or k.parts i no_part) (rw e (s.parts i p)))
      ∙ sym (parts_sum m h lh)

  some_weigh : 0 < h.head.count → weight_moment k ≡ weight_moment h
  unfolding weight_moment hold_moment
  some_weigh p = rw (same_parts k.head.mode (ap (λ (x : Head). x.mode) (s.head p)), s.head p)

  pub same_weight : weight_moment k ≡ weight_moment h
  same_weight =
      ⊎_elim (λ (e : h.head.count ≡ 0). nothing_weighs k (s.count ∙ e) ∙ sym (nothing_weighs h e)) some_weigh (eq-zero-or-pos h.head.count)
