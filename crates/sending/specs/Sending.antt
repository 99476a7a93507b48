-- Document 01: the records of a condition "sent as lines to a cleared panel", here in the one spelling of document 02, P2; and when a panel
-- has the same records. The weight items of document 02, P5, are kept by their sums: sent are at most two items that give them.
use Rattle.std.specs.Prelude.{◌≡◌, Bool, cond, Option, Some, None, List, [], ◌∷◌, ◌++◌, map, ℕ, suc, ◌<◌, length, get_or}
use Rattle.record.specs.declared.Mode.{Mode}
use Rattle.record.specs.declared.Mode.TheVariants.{Trimmed, Voided, Partial}
use Rattle.record.specs.declared.Part.{Part}
use Rattle.record.specs.declared.Hold.{Hold}
use Rattle.record.specs.Held.{held, cells_of}
use Rattle.record.specs.Filler.{no_part, no_hold}
use Rattle.text.specs.Token.{Token}
use Rattle.spelling.specs.Spelling.{spell}
use Rattle.weights.specs.Items.{items_of}
use Rattle.condition.specs.declared.Condition.{Condition}
use Rattle.condition.specs.Condition.{is_held}
use Rattle.panel.specs.Step.{Sent}
use Rattle.sending.specs.Printed.{ship_tokens, load_tokens, column_tokens, hold_tokens, item_tokens}

-- where there is a record, its form
abbrev pub form_if : Bool → List Token → List (List Token)
form_if x ts = cond x (ts ∷ []) []

-- the same of a ship or load that may be there
abbrev pub form_of : {A : Type 0} → (A → List Token) → Option A → List (List Token)
form_of f (Some x) = f x ∷ []
form_of f None = []

-- the holds that are held, the first of these places being place n
unfoldable pub hold_forms : ℕ → List Hold → List (List Token)
hold_forms n [] = []
hold_forms n (h ∷ hs) = form_if (is_held h) (hold_tokens n h) ++ hold_forms (suc n) hs

-- ship, columns in their order, load, holds, weight items
abbrev pub record_forms : Condition → List (List Token)
record_forms c =
    form_of ship_tokens c.ship
    ++ (map column_tokens (held c.columns)
    ++ (form_of load_tokens c.load ++ (hold_forms 1 c.holds ++ map item_tokens (items_of c.sums))))

-- as lines in the one spelling, each with a buffer of this length
abbrev pub as_lines : (lent : ℕ) → List (List Token) → List Sent
as_lines lent forms = map (λ ts. record { line = spell ts; lent = lent }) forms

-- the same part, in what its mode uses: LENGTH and the cells; in mode partial LENGTH, and BREADTH, VOID and GRAIN or RUN, LEFT and RIGHT
abbrev pub SamePart : Mode → Part → Part → Type 0
SamePart Trimmed p q = (q.length ≡ p.length) × (cells_of q ≡ cells_of p)
SamePart Voided p q = (q.length ≡ p.length) × (cells_of q ≡ cells_of p)
SamePart Partial p q = (q.length ≡ p.length) × (q.slack ≡ p.slack)

-- the same hold: as many parts, none where no hold is held; and where there are any, the same MODE and SF, and each part the same
pub record SameHold (h after : Hold) : Type 0 where
  pub count : after.head.count ≡ h.head.count
  pub head : 0 < h.head.count → after.head ≡ h.head
  pub parts : (i : ℕ) → i < h.head.count → SamePart h.head.mode (get_or h.parts i no_part) (get_or after.parts i no_part)

-- `after` has the records of c; fields and places that no record uses are not compared
pub record SameRecords (c after : Condition) : Type 0 where
  pub ship : after.ship ≡ c.ship
  pub columns : held after.columns ≡ held c.columns
  pub load : after.load ≡ c.load
  pub places : length after.holds ≡ 16
  pub holds : (n : ℕ) → n < 16 → SameHold (get_or c.holds n no_hold) (get_or after.holds n no_hold)
  pub sums : after.sums ≡ c.sums
