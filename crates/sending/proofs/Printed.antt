-- A record within its limits is printed as a form that asks for it.
use mathlib.Core.Path.{◌≡◌, refl}
use mathlib.Core.List.{List, [], ◌∷◌, ◌++◌, map, map-id, append_assoc}
use Prim.Native.Nat.{ℕ, zero, suc, ◌+◌, ◌*◌, ◌≤◌, ◌<◌}
use native.Mathlib.Omega.{arith}
use lib.ListN.{length, get_or}
use Rattle.whole.specs.Bytes.{bytes}
use Rattle.whole.specs.Lists.{all, within}
use Rattle.record.specs.declared.Rule.{Rule}
use Rattle.record.specs.declared.Rule.TheVariants.{New, Old}
use Rattle.record.specs.declared.Ship.{Ship}
use Rattle.record.specs.declared.Load.{Load}
use Rattle.record.specs.declared.Column.{Column}
use Rattle.record.specs.declared.Mode.{Mode}
use Rattle.record.specs.declared.Mode.TheVariants.{Trimmed, Voided, Partial}
use Rattle.record.specs.declared.Cell.{Cell}
use Rattle.record.specs.declared.Cell.TheVariants.{Wing, Hatch, Void}
use Rattle.record.specs.declared.Slack.{Slack}
use Rattle.record.specs.declared.Slack.TheVariants.{Undivided, Split}
use Rattle.record.specs.declared.Part.{Part}
use Rattle.record.specs.declared.Hold.{Hold}
use Rattle.record.specs.declared.WeightItem.{WeightItem}
use Rattle.record.specs.declared.Weighing.TheVariants.{Weight}
use Rattle.record.specs.Held.{cells_of, parts_of}
use Rattle.record.proofs.Taken.{cells_length}
use Rattle.record.specs.Held.{edge}
use Rattle.limits.specs.Ranges.{EdgeRange, ShipRange, LoadRange, ColumnRange, CellRange, SectionRange, SizeRange, ItemRange}
use Rattle.limits.proofs.Ranges.{hold_range, place_range}
use Rattle.text.specs.Token.{Token, opened, closed, same}
use Rattle.items.specs.Grammar.{Parsed, got, none, close?, named, number?, numbers?, last_numbers?, items?, several?}
use Rattle.items.proofs.Yields.{Each, Several}
use Rattle.parts.specs.declared.PartWord.TheVariants.{PlainWord}
use Rattle.parts.specs.Shape.{section_record, slack_part, cell?, section?, body?, part?}
use Rattle.std.specs.Prelude.{Some}
use Rattle.forms.specs.declared.Request.TheVariants.{ShipLine, ColumnLine, LoadLine, HoldLine, WeighingLine}
use Rattle.forms.specs.Shape.{mode_named}
use Rattle.sending.specs.Printed.{word, number, numbers, form, each_form, rule_word, ship_tokens, load_tokens, column_tokens, cell_tokens, section_items, slack_tokens, part_tokens, mode_word, hold_tokens, item_tokens}
use Rattle.sending.proofs.Decimals.{decimal_is_read_back}
use Rattle.sending.proofs.Lines.{Fine, fine_none, fine_more, fine_token, fine_append, fine_brackets, fine_form, Small, fine_number, fine_numbers, Asks}
use Rattle.sending.proofs.Numbers.{wing_numbers, undivided_numbers, split_numbers}
use Rattle.sending.proofs.Refilled.{refilled_part, refilled, GoodPart, GoodHold}

pub each_from : {A : Type 0} (P : A → Type 0) (l : List A) (d : A) → ((i : ℕ) → i < length l → P (get_or l i d)) → Each P l
each_from P [] d f = tt
each_from P (x ∷ l) d f = (f 0 (omega arith), each_from P l d (λ i h. f (suc i) (omega arith)))

-- ---- numbers
read_number : (n : ℕ) (ts : List Token) → Small n → number? (number n ∷ ts) ≡ got n ts
read_number n ts p = rw (decimal_is_read_back n (omega arith))

read_numbers : (vs : List ℕ) (ts : List Token) → Each Small vs → numbers? (length vs) (numbers vs ++ ts) ≡ got vs ts
unfolding numbers?
read_numbers [] ts p = refl
read_numbers (v ∷ vs) ts p = rw (read_number v (numbers vs ++ ts) p.0, read_numbers vs ts p.1)

read_last : (vs : List ℕ) (ts : List Token) → Each Small vs → last_numbers? (length vs) (numbers vs ++ closed ∷ ts) ≡ got vs ts
unfolding last_numbers?
read_last vs ts p = rw (read_numbers vs (closed ∷ ts) p)

-- ---- items of a form: what is printed is fine, and read whatever stands behind it
record Prints {A : Type 0} (item : List Token → Parsed A) (x : A) (k : ℕ) (ts : List Token) : Type 0 where
  fine : Fine k ts
  reads : (us : List Token) → item (ts ++ us) ≡ got x us
  opens : (us : List Token) → close? (ts ++ us) ≡ none

module _ {A B : Type 0} {P : A → Type 0} (item : List Token → Parsed B) (print : A → List Token) (back : A → B) (k : ℕ) (prints : (x : A) → P x → Prints item (back x) k (print x)) where
  read_items : (m : ℕ) (xs : List A) (ts : List Token) → Each P xs → length xs ≤ m → items? m item (each_form print xs ++ closed ∷ ts) ≡ got (map back xs) ts
  unfolding items? each_form
  read_items zero [] ts p h = refl
  read_items zero (x ∷ xs) ts p h = absurd (omega arith)
  read_items (suc m) [] ts p h = refl
  read_items (suc m) (x ∷ xs) ts p h =
      let us = each_form print xs ++ closed ∷ ts in
      let w = prints x p.0 in
      rw (append_assoc (print x) (each_form print xs) (closed ∷ ts), w.opens us, w.reads us, read_items m xs ts p.1 (omega arith))

  fine_items : (m : ℕ) (xs : List A) → Each P xs → length xs ≤ m → Fine (m * k) (each_form print xs)
  unfolding each_form
  fine_items m [] p h = fine_more (omega arith) fine_none
  fine_items zero (x ∷ xs) p h = absurd (omega arith)
  fine_items (suc m) (x ∷ xs) p h = fine_more (omega arith) (fine_append (prints x p.0).fine (fine_items m xs p.1 (omega arith)))

  read_several : (m : ℕ) (xs : List A) (ts : List Token) → Several P m xs → several? m item (each_form print xs ++ closed ∷ ts) ≡ got (map back xs) ts
  read_several m [] ts s = absurd (omega (arith, s.some))
  read_several m (x ∷ xs) ts s = rw (read_items m (x ∷ xs) ts s.every s.most)

-- ---- cells: each takes at most 37 bytes, its spaces with it
print_cell : (c : Cell) → CellRange c → Prints cell? c 37 (cell_tokens c)
unfolding named same all within
print_cell (Wing w d g l) r =
    let vs : List ℕ = wing_numbers w d g l in
    let s : Each Small vs = (omega arith, (omega arith, (omega arith, (omega arith, tt)))) in
    record { fine = fine_form "wing" refl refl (fine_numbers vs s); reads = λ us. rw (read_last vs us s); opens = λ us. refl }
print_cell (Hatch w o l) r =
    let vs : List ℕ = w ∷ o ∷ l ∷ [] in
    let s : Each Small vs = (omega arith, (omega arith, (omega arith, tt))) in
    record { fine = fine_more (omega arith) (fine_form "hatch" refl refl (fine_numbers vs s)); reads = λ us. rw (read_last vs us s); opens = λ us. refl }
print_cell (Void w d l) r =
    let vs : List ℕ = w ∷ d ∷ l ∷ [] in
    let s : Each Small vs = (omega arith, (omega arith, (omega arith, tt))) in
    record { fine = fine_more (omega arith) (fine_form "void" refl refl (fine_numbers vs s)); reads = λ us. rw (read_last vs us s); opens = λ us. refl }

-- ---- parts, with their eight places: each takes at most 312, so that six leave enough of 2,000 for the rest of a hold
cells_several : (p : Part) → SectionRange p → length p.cells ≡ 8 → Several CellRange 8 (cells_of p)
cells_several p r n =
    let l = cells_length p (omega arith) in
    record { every = each_from CellRange (cells_of p) (Void 0 0 0) r.4; some = omega arith; most = omega arith }

section_body : (p : Part) → SectionRange p → length p.cells ≡ 8 → Fine 303 (section_items p) × ((us : List Token) → section? (section_items p ++ closed ∷ us) ≡ got (section_record p.length (cells_of p)) us)
section_body p r n =
    let cs = cells_several p r n in (
      fine_number p.length (omega arith) (fine_items cell? cell_tokens (λ c. c) 37 print_cell 8 (cells_of p) cs.every cs.most),
      λ us. rw (read_number p.length (each_form cell_tokens (cells_of p) ++ closed ∷ us) (omega arith), read_several cell? cell_tokens (λ c. c) 37 print_cell 8 (cells_of p) us cs, map-id (cells_of p)),
    )

print_section : (m : Mode) → ((us : List Token) → body? m PlainWord us ≡ section? us) → (p : Part) → SectionRange p → length p.cells ≡ 8 → Prints (part? m) (section_record p.length (cells_of p)) 312 (form "part" (section_items p))
unfolding named same all within
print_section m reads p r n =
    let b = section_body p r n in
    record { fine = fine_form "part" refl refl b.0; reads = λ us. rw (append_assoc (section_items p) (closed ∷ []) us, reads (section_items p ++ closed ∷ us), b.1 us); opens = λ us. refl }

print_slack : (n : ℕ) (s : Slack) → n ≤ 60000 → SizeRange n s → Prints (part? Partial) (slack_part n s) 312 (slack_tokens n s)
unfolding named same all within
print_slack n (Undivided b v g) h r =
    let vs : List ℕ = undivided_numbers n b v g in
    let s : Each Small vs = (omega arith, (omega arith, (omega arith, (omega arith, tt)))) in
    record { fine = fine_more (omega arith) (fine_form "part" refl refl (fine_numbers vs s)); reads = λ us. rw (read_last vs us s); opens = λ us. refl }
print_slack n (Split a left right) h r =
    let vs : List ℕ = split_numbers n a left right in
    let s : Each Small vs = (omega arith, (omega arith, (omega arith, (omega arith, tt)))) in
    record { fine = fine_more (omega arith) (fine_form "split" refl refl (fine_numbers vs s)); reads = λ us. rw (read_last vs us s); opens = λ us. refl }

print_part : (m : Mode) (p : Part) → GoodPart m p → Prints (part? m) (refilled_part m p) 312 (part_tokens m p)
print_part Trimmed p g = print_section Trimmed (λ us. refl) p g.range g.places
print_part Voided p g = print_section Voided (λ us. refl) p g.range g.places
print_part Partial p g = print_slack p.length p.slack g.range.1 g.range.2

-- ---- a hold
mode_named_lem : (m : Mode) → mode_named (bytes (mode_word m)) ≡ Some m
unfolding named same
mode_named_lem Trimmed = refl
mode_named_lem Voided = refl
mode_named_lem Partial = refl

fine_mode : (m : Mode) {k : ℕ} {ts : List Token} → Fine k ts → Fine (8 + k) (word (mode_word m) ∷ ts)
unfolding all within
fine_mode Trimmed f = fine_token (word "trimmed") refl refl f
fine_mode Voided f = fine_more (omega arith) (fine_token (word "voided") refl refl f)
fine_mode Partial f = fine_token (word "partial") refl refl f

pub print_hold : (n : ℕ) (h : Hold) → GoodHold n h → Asks (hold_tokens n h) (HoldLine n (refilled h))
unfolding named same all within
print_hold n h g =
    let m = h.head.mode in
    let ps = parts_of h in
    let us = each_form (part_tokens m) ps ++ closed ∷ [] in
    let e = (place_range n).0 g.passed.place in
    let r = (hold_range h).0 g.passed.limits in
    record {
      reads = rw (
        read_number n (word (mode_word m) ∷ number h.head.factor ∷ us) (omega arith),
        mode_named_lem m,
        read_number h.head.factor us (omega arith),
        read_several (part? m) (part_tokens m) (refilled_part m) 312 (print_part m) 6 ps [] g.parts,
      );
      fine =
          fine_more (omega arith)
          (fine_form "hold" refl refl (fine_number n (omega arith) (fine_mode m (fine_number h.head.factor (omega arith)
          (fine_items (part? m) (part_tokens m) (refilled_part m) 312 (print_part m) 6 ps g.parts.every g.parts.most)))));
    }

-- ---- ship, load, column
print_rule : (r : Rule) (flood : ℕ) → EdgeRange r → flood ≤ 9000 → Asks (form "ship" (word (rule_word r) ∷ numbers (edge r ∷ flood ∷ []))) (ShipLine (record { rule = r; flood = flood }))
unfolding named same all within
print_rule (New e) flood p q =
    let vs : List ℕ = e ∷ flood ∷ [] in
    let s : Each Small vs = (omega arith, (omega arith, tt)) in
    record { reads = rw (read_last vs [] s); fine = fine_more (omega arith) (fine_form "ship" refl refl (fine_token (word "new") refl refl (fine_numbers vs s))) }
print_rule (Old e) flood p q =
    let vs : List ℕ = e ∷ flood ∷ [] in
    let s : Each Small vs = (omega arith, (omega arith, tt)) in
    record { reads = rw (read_last vs [] s); fine = fine_more (omega arith) (fine_form "ship" refl refl (fine_token (word "old") refl refl (fine_numbers vs s))) }

pub print_ship : (s : Ship) → ShipRange s → Asks (ship_tokens s) (ShipLine s)
print_ship s r = print_rule s.rule s.flood r.0 r.2

pub print_load : (l : Load) → LoadRange l → Asks (load_tokens l) (LoadLine l)
unfolding named same all within
print_load l r =
    let vs : List ℕ = l.kg ∷ l.fs ∷ [] in
    let s : Each Small vs = (omega arith, (omega arith, tt)) in
    let d : Small l.d = omega arith in
    record {
      reads = rw (read_number l.d (numbers vs ++ closed ∷ []) d, read_last vs [] s);
      fine = fine_more (omega arith) (fine_form "load" refl refl (fine_number l.d d (fine_numbers vs s)));
    }

pub print_column : (k : Column) → ColumnRange k → length k.kn ≡ 10 → Asks (column_tokens k) (ColumnLine k)
unfolding named same all within
print_column k r n =
    let s = each_from Small k.kn 0 (λ i h. omega (arith, r.5 i h)) in
    let d : Small k.d = omega arith in
    let m : Small k.km = omega arith in
    let ten : last_numbers? 10 (numbers k.kn ++ closed ∷ closed ∷ []) ≡ got k.kn (closed ∷ []) = rw n at (read_last k.kn (closed ∷ []) s) in
    let us = opened ∷ (numbers k.kn ++ closed ∷ []) ++ closed ∷ [] in
    record {
      reads = rw (read_number k.d (number k.km ∷ us) d, read_number k.km us m, append_assoc (numbers k.kn) (closed ∷ []) (closed ∷ []), ten);
      fine =
          fine_more (omega arith)
          (fine_form "column" refl refl (fine_number k.d d (fine_number k.km m (fine_brackets (fine_numbers k.kn s)))));
    }

-- ---- a weight item
pub print_item : (i : WeightItem) → ItemRange i → Asks (item_tokens i) (WeighingLine (Weight i))
unfolding named same all within
print_item i r =
    let vs : List ℕ = i.height ∷ [] in
    let s : Each Small vs = (omega arith, tt) in
    let t : Small i.tonnes = omega arith in
    record {
      reads = rw (read_number i.tonnes (numbers vs ++ closed ∷ []) t, read_last vs [] s);
      fine = fine_more (omega arith) (fine_form "weight" refl refl (fine_number i.tonnes t (fine_numbers vs s)));
    }
