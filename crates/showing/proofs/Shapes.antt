-- A form of document 01 has at most 55 opening brackets, no run directly behind a closing bracket, and is at most three deep, a show of one four.
-- All of it is said of the tokens that a reading leaves, and follows the grammar.
use mathlib.Core.Path.{◌≡◌, refl, sym, ◌∙◌, ap}
use mathlib.Core.Bool.{Bool, true, false, cond}
use mathlib.Core.List.{List, [], ◌∷◌}
use Prim.Native.Nat.{ℕ, zero, suc, ◌+◌, ◌-◌, ◌≤◌, ◌<◌}
use native.Mathlib.Omega.{arith}
use Rattle.std.specs.Prelude.{Option, Some, None}
use borrow.Author.Tests.{lt-ltb}
use Rattle.record.specs.declared.Mode.{Mode}
use Rattle.record.specs.declared.Mode.TheVariants.{Trimmed, Voided, Partial}
use Rattle.record.specs.declared.Weighing.TheVariants.{Unweigh}
use Rattle.text.specs.Token.{Token, opened, closed, run, number_of}
use Rattle.line_codes.specs.Line.{Stand, before, inside, behind, wrong, out_of}
use Rattle.line_codes.proofs.Along.{along}
use Rattle.spelling.specs.Spelling.{one, places, bracket_gaps}
use Rattle.spelling.proofs.Lengths.{first_run}
use Rattle.items.specs.Grammar.{Parsed, got, none, ◌and_then◌, open?, close?, run?, head?, is, behind?, number?, numbers?, last_numbers?, or_else, items?, some_of, several?}
use Rattle.parts.specs.declared.CellWord.{CellWord}
use Rattle.parts.specs.declared.PartWord.{PartWord}
use Rattle.parts.specs.declared.PartWord.TheVariants.{PlainWord, SplitWord}
use Rattle.parts.specs.Shape.{cell_named, numbers_of, cell_by, cell?, part_named, section?, slack?, split?, body?, part?}
use Rattle.forms.specs.declared.RuleWord.{RuleWord}
use Rattle.forms.specs.declared.FormWord.{FormWord}
use Rattle.forms.specs.declared.FormWord.TheVariants.{ShipWord, ColumnWord, LoadWord, HoldWord, DropWord, JudgeWord, ClearWord}
use Rattle.forms.specs.declared.Request.TheVariants.{JudgeLine, ClearLine, TotalLine, WeighingLine}
use Rattle.forms.specs.declared.Request.{Request}
use Rattle.forms.specs.Shape.{rule_named, ship_by, ship?, column?, load?, mode_named, parts?, hold?, drop?, bare?, form_word, form_by, form?}
use Rattle.request.specs.declared.LineWord.{LineWord}
use Rattle.request.specs.declared.LineWord.TheVariants.{OfForm, TotalWord, WeightWord, WeighedWord, UnweighWord}
use Rattle.request.specs.Shape.{line_word, line_by, line?}

-- ---- the places where a bracket opens, and those where a run stands directly behind a closing bracket
abbrev here : Token → List Token → ℕ
here opened ts = 1
here closed ts = one (first_run ts)
here (run r) ts = 0

unfoldable opens : List Token → ℕ
opens [] = 0
opens (t ∷ ts) = here t ts + opens ts

-- ---- what a reading leaves
pub data Leaves {A : Type 0} (P : List Token → Type 0) : Parsed A → Type 0 where
  leaves : {a : A} {ts : List Token} → P ts → Leaves P (got a ts)
  nothing : Leaves P none

pub leaves_with : {A B : Type 0} {P Q : List Token → Type 0} {r : Parsed A} {f : A → List Token → Parsed B} → Leaves P r → ((a : A) (ts : List Token) → P ts → Leaves Q (f a ts)) → Leaves Q (r and_then f)
leaves_with (leaves {a = a} {ts = ts} p) h = h a ts p
leaves_with nothing h = nothing

pub leaves_behind : {W A : Type 0} {P Q : List Token → Type 0} {f : W → List Token → Parsed A} (w : Option W) (ts : List Token) → P ts → ((w : W) (ts : List Token) → P ts → Leaves Q (f w ts)) → Leaves Q (behind? f w ts)
leaves_behind (Some w) ts p h = h w ts p
leaves_behind None ts p h = nothing

leaves_if : {A : Type 0} {P : List Token → Type 0} (x : Bool) {r s : Parsed A} → Leaves P r → Leaves P s → Leaves P (cond x r s)
leaves_if true p q = p
leaves_if false p q = q

pub leaves_else : {A : Type 0} {P : List Token → Type 0} {r s : Parsed A} → Leaves P r → Leaves P s → Leaves P (or_else r s)
leaves_else (leaves p) q = leaves p
leaves_else nothing q = q

-- `total` is at most k and the count of what is left, and a walk along it, with this many brackets open, ends as the whole walk did
module _ (most total : ℕ) (end : Stand) where
  -- inside an item of the form that the brackets open
  record In (d k : ℕ) (ts : List Token) : Type 0 where
    count : total ≤ k + opens ts
    walk : along most (inside (suc d)) ts ≡ end

  -- behind such an item, or before its first
  record Behind (d k : ℕ) (ts : List Token) : Type 0 where
    count : total ≤ k + (one (first_run ts) + opens ts)
    walk : along most (out_of d) ts ≡ end

  behind_in : {d k : ℕ} {ts : List Token} → In d k ts → Behind (suc d) k ts
  behind_in {ts = ts} p = record { count = omega (arith, p.count); walk = p.walk }

  more_in : {d k l : ℕ} {ts : List Token} → k ≤ l → In d k ts → In d l ts
  more_in h p = record { count = omega (arith, p.count); walk = p.walk }

  more_behind : {d k l : ℕ} {ts : List Token} → k ≤ l → Behind d k ts → Behind d l ts
  more_behind h p = record { count = omega (arith, p.count); walk = p.walk }

  weaker : {A : Type 0} {d k l : ℕ} {r : Parsed A} → k ≤ l → Leaves (Behind d k) r → Leaves (Behind d l) r
  weaker h (leaves p) = leaves (more_behind h p)
  weaker h nothing = nothing

  -- ---- a token
  run_leaves : (d k : ℕ) (ts : List Token) → In d k ts → Leaves (In d k) (run? ts)
  unfolding opens along
  run_leaves d k [] p = nothing
  run_leaves d k (opened ∷ ts) p = nothing
  run_leaves d k (closed ∷ ts) p = nothing
  run_leaves d k (run r ∷ ts) p = leaves {ts = ts} (record { count = omega (arith, p.count); walk = p.walk })

  open_leaves : (d k : ℕ) (ts : List Token) → suc d < most → Behind (suc d) k ts → Leaves (In (suc d) (suc k)) (open? ts)
  unfolding opens along
  open_leaves d k [] h p = nothing
  open_leaves d k (opened ∷ ts) h p =
      leaves {ts = ts} (record {
        count = omega (arith, p.count);
        walk = ap (λ x. along most (cond x (inside (suc (suc d))) wrong) ts) (sym (lt-ltb (suc d) most h)) ∙ p.walk;
      })
  open_leaves d k (closed ∷ ts) h p = nothing
  open_leaves d k (run r ∷ ts) h p = nothing

  close_leaves : (d k : ℕ) (ts : List Token) → Behind (suc d) k ts → Leaves (Behind d k) (close? ts)
  unfolding opens along
  close_leaves d k [] p = nothing
  close_leaves d k (opened ∷ ts) p = nothing
  close_leaves d k (closed ∷ ts) p =
      let e : suc d - 1 ≡ d = omega arith in
      leaves {ts = ts} (record { count = omega (arith, p.count); walk = ap (λ x. along most (out_of x) ts) (sym e) ∙ p.walk })
  close_leaves d k (run r ∷ ts) p = nothing

  head_leaves : (d k : ℕ) (ts : List Token) → suc d < most → Behind (suc d) k ts → Leaves (In (suc d) (suc k)) (head? ts)
  head_leaves d k ts h p = leaves_with (open_leaves d k ts h p) (λ u us q. run_leaves (suc d) (suc k) us q)

  -- ---- numbers
  number_leaves : (d k : ℕ) (ts : List Token) → In d k ts → Leaves (In d k) (number? ts)
  number_leaves d k ts p = leaves_with (run_leaves d k ts p) (λ r us q. leaves_behind (number_of r) us q (λ v vs w. leaves w))

  numbers_leave : (d k m : ℕ) (ts : List Token) → In d k ts → Leaves (In d k) (numbers? m ts)
  unfolding numbers?
  numbers_leave d k zero ts p = leaves p
  numbers_leave d k (suc m) ts p =
      leaves_with (number_leaves d k ts p) (λ v us q. leaves_with (numbers_leave d k m us q) (λ vs ws w. leaves w))

  last_leave : (d k m : ℕ) (ts : List Token) → In d k ts → Leaves (Behind d k) (last_numbers? m ts)
  unfolding last_numbers?
  last_leave d k m ts p =
      leaves_with (numbers_leave d k m ts p) (λ vs us q. leaves_with (close_leaves d k us (behind_in q)) (λ u ws w. leaves w))

  -- ---- items up to a closing bracket, each with at most j
  module _ {A : Type 0} (item : List Token → Parsed A) (d j : ℕ) (each : (k : ℕ) (ts : List Token) → Behind (suc d) k ts → Leaves (Behind (suc d) (j + k)) (item ts)) where
    -- how many they have together
    abbrev together : ℕ → ℕ → ℕ
    together zero k = k
    together (suc m) k = together m (j + k)

    grows : (m k : ℕ) → k ≤ together m k
    grows zero k = omega arith
    grows (suc m) k = omega (arith, grows m (j + k))

    items_leave : (k m : ℕ) (ts : List Token) → Behind (suc d) k ts → Leaves (Behind d (together m k)) (items? m item ts)
    unfolding items?
    items_leave k zero ts p = leaves_with (close_leaves d k ts p) (λ u us q. leaves q)
    items_leave k (suc m) ts p =
        leaves_else (leaves_with (close_leaves d k ts p) (λ u us q. leaves (more_behind (grows (suc m) k) q)))
        (leaves_with (each k ts p) (λ x us q. leaves_with (items_leave (j + k) m us q) (λ xs ws w. leaves w)))

    some_leave : (k : ℕ) (xs : List A) (ts : List Token) → Behind d k ts → Leaves (Behind d k) (some_of xs ts)
    some_leave k [] ts p = nothing
    some_leave k (x ∷ xs) ts p = leaves {a = x ∷ xs} p

    several_leave : (k m : ℕ) (ts : List Token) → Behind (suc d) k ts → Leaves (Behind d (together m k)) (several? m item ts)
    several_leave k m ts p = leaves_with (items_leave k m ts p) (some_leave (together m k))

  -- ---- cells and parts: a cell opens one bracket, a part nine at most
  cell_by_lem : (d k : ℕ) (w : CellWord) (ts : List Token) → In d k ts → Leaves (Behind d k) (cell_by w ts)
  cell_by_lem d k w ts p = leaves_with (last_leave d k (numbers_of w) ts p) (λ v us q. leaves q)

  cell_leaves : (d k : ℕ) (ts : List Token) → suc d < most → Behind (suc d) k ts → Leaves (Behind (suc d) (1 + k)) (cell? ts)
  cell_leaves d k ts h p =
      leaves_with (head_leaves d k ts h p) (λ r us q. leaves_behind (cell_named r) us (more_in (omega arith) q) (cell_by_lem (suc d) (1 + k)))

  section_leaves : (d k : ℕ) (ts : List Token) → suc d < most → In d k ts → Leaves (Behind d (8 + k)) (section? ts)
  section_leaves d k ts h p =
      leaves_with (number_leaves d k ts p) (λ v us q.
      leaves_with (several_leave cell? d 1 (λ l ws w. cell_leaves d l ws h w) k 8 us (behind_in q)) (λ cs ws w. leaves (more_behind (omega arith) w)))

  slack_leaves : (d k : ℕ) (ts : List Token) → In d k ts → Leaves (Behind d (8 + k)) (slack? ts)
  slack_leaves d k ts p = leaves_with (last_leave d k 4 ts p) (λ v us q. leaves (more_behind (omega arith) q))

  split_leaves : (d k : ℕ) (ts : List Token) → In d k ts → Leaves (Behind d (8 + k)) (split? ts)
  split_leaves d k ts p = leaves_with (last_leave d k 4 ts p) (λ v us q. leaves (more_behind (omega arith) q))

  body_leaves : (d k : ℕ) (m : Mode) (w : PartWord) (ts : List Token) → suc d < most → In d k ts → Leaves (Behind d (8 + k)) (body? m w ts)
  body_leaves d k Trimmed PlainWord ts h p = section_leaves d k ts h p
  body_leaves d k Trimmed SplitWord ts h p = nothing
  body_leaves d k Voided PlainWord ts h p = section_leaves d k ts h p
  body_leaves d k Voided SplitWord ts h p = nothing
  body_leaves d k Partial PlainWord ts h p = slack_leaves d k ts p
  body_leaves d k Partial SplitWord ts h p = split_leaves d k ts p

  -- ---- inside this many brackets and those of the form itself
  module _ (d : ℕ) (deep : d + 2 < most) where
    part_leaves : (m : Mode) (k : ℕ) (ts : List Token) → Behind (suc d) k ts → Leaves (Behind (suc d) (9 + k)) (part? m ts)
    part_leaves m k ts p =
        leaves_with (head_leaves d k ts (omega arith) p) (λ r us q.
        leaves_behind (part_named r) us q (λ w vs v. weaker (omega arith) (body_leaves (suc d) (suc k) m w vs (omega arith) v)))

    -- the forms: a hold opens 54 brackets at most behind its own
    hold_by : (n k : ℕ) (m : Mode) (ts : List Token) → In d k ts → Leaves (Behind d (54 + k)) (parts? n m ts)
    hold_by n k m ts p =
        leaves_with (number_leaves d k ts p) (λ f us q.
        leaves_with (several_leave (part? m) d 9 (part_leaves m) k 6 us (behind_in q)) (λ ps ws w. leaves (more_behind (omega arith) w)))

    hold_leaves : (k : ℕ) (ts : List Token) → In d k ts → Leaves (Behind d (54 + k)) (hold? ts)
    hold_leaves k ts p =
        leaves_with (number_leaves d k ts p) (λ n us q. leaves_with (run_leaves d k us q) (λ r ws w. leaves_behind (mode_named r) ws w (hold_by n k)))

    ship_by_lem : (k : ℕ) (w : RuleWord) (ts : List Token) → In d k ts → Leaves (Behind d k) (ship_by w ts)
    ship_by_lem k w ts p = leaves_with (last_leave d k 2 ts p) (λ v us q. leaves q)

    ship_leaves : (k : ℕ) (ts : List Token) → In d k ts → Leaves (Behind d k) (ship? ts)
    ship_leaves k ts p = leaves_with (run_leaves d k ts p) (λ r us q. leaves_behind (rule_named r) us q (ship_by_lem k))

    column_leaves : (k : ℕ) (ts : List Token) → In d k ts → Leaves (Behind d (suc k)) (column? ts)
    column_leaves k ts p =
        leaves_with (number_leaves d k ts p) (λ v t1 q1. leaves_with (number_leaves d k t1 q1) (λ km t2 q2.
        leaves_with (open_leaves d k t2 (omega arith) (behind_in q2)) (λ u t3 q3. leaves_with (last_leave (suc d) (suc k) 10 t3 q3) (λ kn t4 q4.
        leaves_with (close_leaves d (suc k) t4 q4) (λ u t5 q5. leaves q5)))))

    load_leaves : (k : ℕ) (ts : List Token) → In d k ts → Leaves (Behind d k) (load? ts)
    load_leaves k ts p = leaves_with (number_leaves d k ts p) (λ v us q. leaves_with (last_leave d k 2 us q) (λ vs ws w. leaves w))

    drop_leaves : (k : ℕ) (ts : List Token) → In d k ts → Leaves (Behind d k) (drop? ts)
    drop_leaves k ts p =
        leaves_with (number_leaves d k ts p) (λ n us q. leaves_with (close_leaves d k us (behind_in q)) (λ u ws w. leaves w))

    bare_leaves : (k : ℕ) (r : Request) (ts : List Token) → In d k ts → Leaves (Behind d k) (bare? r ts)
    bare_leaves k r ts p = leaves_with (close_leaves d k ts (behind_in p)) (λ u us q. leaves q)

    form_by_lem : (k : ℕ) (w : FormWord) (ts : List Token) → In d k ts → Leaves (Behind d (54 + k)) (form_by w ts)
    form_by_lem k ShipWord ts p = weaker (omega arith) (ship_leaves k ts p)
    form_by_lem k ColumnWord ts p = weaker (omega arith) (column_leaves k ts p)
    form_by_lem k LoadWord ts p = weaker (omega arith) (load_leaves k ts p)
    form_by_lem k HoldWord ts p = weaker (omega arith) (hold_leaves k ts p)
    form_by_lem k DropWord ts p = weaker (omega arith) (drop_leaves k ts p)
    form_by_lem k JudgeWord ts p = weaker (omega arith) (bare_leaves k JudgeLine ts p)
    form_by_lem k ClearWord ts p = weaker (omega arith) (bare_leaves k ClearLine ts p)

    -- and every line but show
    line_by_lem : (k : ℕ) (w : LineWord) (ts : List Token) → In d k ts → Leaves (Behind d (54 + k)) (line_by w ts)
    line_by_lem k (OfForm w) ts p = form_by_lem k w ts p
    line_by_lem k TotalWord ts p = weaker (omega arith) (bare_leaves k TotalLine ts p)
    line_by_lem k WeightWord ts p =
        weaker (omega arith) (leaves_with (number_leaves d k ts p) (λ t us q. leaves_with (last_leave d k 1 us q) (λ v ws w. leaves w)))
    line_by_lem k WeighedWord ts p = weaker (omega arith) (leaves_with (last_leave d k 1 ts p) (λ v us q. leaves q))
    line_by_lem k UnweighWord ts p = weaker (omega arith) (bare_leaves k (WeighingLine Unweigh) ts p)

-- ---- a form from its first bracket to its last, and a line: a show of a form, or any other
abbrev Left : (most : ℕ) → List Token → (k : ℕ) → List Token → Type 0
Left most ts k us = Behind most (opens ts) (along most before ts) 0 k us

first_bracket : (most : ℕ) (ts : List Token) → Leaves (In most (opens ts) (along most before ts) 0 1) (head? ts)
unfolding opens along
first_bracket most [] = nothing
first_bracket most (opened ∷ []) = nothing
first_bracket most (opened ∷ opened ∷ ts) = nothing
first_bracket most (opened ∷ closed ∷ ts) = nothing
first_bracket most (opened ∷ run r ∷ ts) = leaves {ts = ts} (record { count = omega arith; walk = refl })
first_bracket most (closed ∷ ts) = nothing
first_bracket most (run r ∷ ts) = nothing

form_leaves : (most : ℕ) → 2 < most → (ts : List Token) → Leaves (Left most ts 55) (form? ts)
form_leaves most h ts = leaves_with (first_bracket most ts) (λ r us p. leaves_behind (form_word r) us p (form_by_lem most (opens ts) (along most before ts) 0 (omega arith) 1))

line_leaves : (most : ℕ) → 3 < most → (ts : List Token) → Leaves (Left most ts 56) (line? ts)
line_leaves most h ts =
    let n = opens ts in
    let e = along most before ts in
    leaves_with (first_bracket most ts) (λ r us p.
    leaves_if (is r "show")
    (leaves_with (leaves_with (head_leaves most n e 0 1 us (omega arith) (behind_in most n e p)) (λ q vs w. leaves_behind (form_word q) vs w (form_by_lem most n e 1 (omega arith) 2))) (λ a ws w.
    leaves_with (close_leaves most n e 0 56 ws w) (λ u xs v. leaves v)))
    (weaker most n e (omega arith) (leaves_behind (line_word r) us p (line_by_lem most n e 0 (omega arith) 1))))

-- nothing is left
record Whole (most k : ℕ) (ts : List Token) : Type 0 where
  few : opens ts ≤ k
  walks : along most before ts ≡ behind

whole_by : (most k : ℕ) (ts : List Token) (r : Parsed Request) → Leaves (Left most ts k) r → (a : Request) → r ≡ got a [] → Whole most k ts
unfolding opens along
whole_by most k ts (got b []) (leaves p) a e = record { few = omega (arith, p.count); walks = sym p.walk }
whole_by most k ts (got b (u ∷ us)) p a e = let z : ◌≡◌ {A = ℕ} 0 1 = cc in absurd (omega arith)
whole_by most k ts none p a e = let z : ◌≡◌ {A = ℕ} 0 1 = cc in absurd (omega arith)

form_few : (ts : List Token) (a : Request) → form? ts ≡ got a [] → opens ts ≤ 55
form_few ts a e = (whole_by 3 55 ts (form? ts) (form_leaves 3 (omega arith) ts) a e).few

-- a line is one form, four deep at most
pub line_walks : (most : ℕ) (ts : List Token) (a : Request) → 3 < most → line? ts ≡ got a [] → along most before ts ≡ behind
line_walks most ts a h e = (whole_by most 56 ts (line? ts) (line_leaves most h ts) a e).walks

-- ---- the gaps beside brackets are at most the counted places, and fewer by one where the first token is an opening bracket
abbrev is_opened : Token → Bool
is_opened opened = true
is_opened closed = false
is_opened (run r) = false

gaps_by : (t u : Token) (ts : List Token) → one (is_opened u) + bracket_gaps (u ∷ ts) ≤ opens (u ∷ ts) → one (is_opened t) + bracket_gaps (t ∷ u ∷ ts) ≤ here t (u ∷ ts) + opens (u ∷ ts)
unfolding places
gaps_by opened u ts p = omega arith
gaps_by closed opened ts p = omega arith
gaps_by closed closed ts p = omega arith
gaps_by closed (run q) ts p = omega arith
gaps_by (run r) opened ts p = omega arith
gaps_by (run r) closed ts p = omega arith
gaps_by (run r) (run q) ts p = omega arith

gaps_alone : (t : Token) → one (is_opened t) + bracket_gaps (t ∷ []) ≤ here t []
unfolding places
gaps_alone opened = omega arith
gaps_alone closed = omega arith
gaps_alone (run r) = omega arith

gaps_opens : (t : Token) (ts : List Token) → one (is_opened t) + bracket_gaps (t ∷ ts) ≤ opens (t ∷ ts)
unfolding opens
gaps_opens t [] = omega (arith, gaps_alone t)
gaps_opens t (u ∷ ts) = gaps_by t u ts (gaps_opens u ts)

-- a form opens with its bracket
no_form : (t : Token) (ts : List Token) (a : Request) → is_opened t ≡ false → form? (t ∷ ts) ≡ got a [] → ⊥
no_form opened ts a i e = let z : ◌≡◌ {A = ℕ} 0 1 = cc in omega arith
no_form closed ts a i e = let z : ◌≡◌ {A = ℕ} 0 1 = cc in omega arith
no_form (run r) ts a i e = let z : ◌≡◌ {A = ℕ} 0 1 = cc in omega arith

pub form_gaps : (ts : List Token) (a : Request) → form? ts ≡ got a [] → bracket_gaps ts ≤ 54
form_gaps [] a e = unfold places in omega arith
form_gaps (opened ∷ ts) a e = omega (arith, form_few (opened ∷ ts) a e, gaps_opens opened ts)
form_gaps (closed ∷ ts) a e = absurd (no_form closed ts a refl e)
form_gaps (run r ∷ ts) a e = absurd (no_form (run r) ts a refl e)
