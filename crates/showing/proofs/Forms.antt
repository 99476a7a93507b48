-- Which lines are a show, and of what.
use mathlib.Core.Path.{◌≡◌, refl, sym, ◌∙◌, ap}
use mathlib.Core.Bool.{Bool, true, false, cond}
use mathlib.Core.List.{List, [], ◌∷◌, ◌++◌, append-nil}
use Prim.Native.Nat.{ℕ, ◌<◌}
use native.Mathlib.Omega.{arith}
use lib.Dec.{eqb}
use Rattle.std.specs.Prelude.{Option, Some, None, option_map}
use Rattle.whole.specs.Bytes.{bytes}
use Rattle.record.specs.declared.Weighing.TheVariants.{Weight, Weighed, Unweigh}
use Rattle.record.specs.declared.Mode.{Mode}
use Rattle.text.specs.Token.{Token, opened, closed, run, same}
use Rattle.text.proofs.Runs.{same_true}
use Rattle.items.specs.Grammar.{Parsed, got, none, ◌and_then◌, open?, close?, run?, head?, is, named, behind?, number?, last_numbers?, several?, whole?}
use Rattle.items.proofs.Yields.{Yields, yields, nothing, yields_then, yields_behind}
use Rattle.parts.specs.Shape.{part?}
use Rattle.forms.specs.declared.RuleWord.{RuleWord}
use Rattle.forms.specs.declared.FormWord.{FormWord}
use Rattle.forms.specs.declared.FormWord.TheVariants.{ShipWord, ColumnWord, LoadWord, HoldWord, DropWord, JudgeWord, ClearWord}
use Rattle.forms.specs.declared.Request.TheVariants.{ShipLine, ColumnLine, LoadLine, HoldLine, DropLine, JudgeLine, ClearLine, ShowLine, TotalLine, WeighingLine}
use Rattle.forms.specs.declared.Request.{Request}
use Rattle.forms.specs.Shape.{rule_named, ship_by, mode_named, parts?, form_word, form_by, form?}
use Rattle.request.specs.declared.LineWord.{LineWord}
use Rattle.request.specs.declared.LineWord.TheVariants.{OfForm, TotalWord, WeightWord, WeighedWord, UnweighWord}
use Rattle.request.specs.Shape.{show?, line_word, line_by, line?, request_of}
use Rattle.showing.specs.Laws.{OfDocument01, ship, column, load, hold, drop, judge, clear, ShowOf}
use Rattle.showing.proofs.Framing.{clash, form_frames}

-- ---- what a form yields
abbrev Of01 : Request → Type 0
Of01 r = OfDocument01 (Some r)

hold_by : (n : ℕ) (m : Mode) (ts : List Token) → Yields Of01 (parts? n m ts)
hold_by n m ts = yields_then (number? ts) (λ f us. yields_then (several? 6 (part? m) us) (λ ps ws. yields hold))

ship_by_lem : (w : RuleWord) (ts : List Token) → Yields Of01 (ship_by w ts)
ship_by_lem w ts = yields_then (last_numbers? 2 ts) (λ v us. yields ship)

form_by_lem : (w : FormWord) (ts : List Token) → Yields Of01 (form_by w ts)
form_by_lem ShipWord ts = yields_then (run? ts) (λ r us. yields_behind (rule_named r) ship_by_lem us)
form_by_lem ColumnWord ts =
    yields_then (number? ts) (λ d t1. yields_then (number? t1) (λ km t2. yields_then (open? t2) (λ u t3.
    yields_then (last_numbers? 10 t3) (λ kn t4. yields_then (close? t4) (λ u t5. yields column)))))
form_by_lem LoadWord ts = yields_then (number? ts) (λ d us. yields_then (last_numbers? 2 us) (λ v ws. yields load))
form_by_lem HoldWord ts = yields_then (number? ts) (λ n us. yields_then (run? us) (λ r ws. yields_behind (mode_named r) (hold_by n) ws))
form_by_lem DropWord ts = yields_then (number? ts) (λ n us. yields_then (close? us) (λ u ws. yields drop))
form_by_lem JudgeWord ts = yields_then (close? ts) (λ u us. yields judge)
form_by_lem ClearWord ts = yields_then (close? ts) (λ u us. yields clear)

yielded : (P : Request → Type 0) {r : Parsed Request} (a : Request) (us : List Token) → Yields P r → r ≡ got a us → P a
yielded P a us (yields {a = b} p) e = let t : b ≡ a = cc in rw (← t) p
yielded P a us nothing e = let z : ◌≡◌ {A = ℕ} 0 1 = cc in absurd (omega arith)

form_kind : (ts : List Token) (a : Request) (us : List Token) → form? ts ≡ got a us → Of01 a
form_kind ts a us e = yielded Of01 a us (yields_then (head? ts) (λ r ws. yields_behind (form_word r) form_by_lem ws)) e

-- the requests by their lines: one of these, a show, and each that no show takes
abbrev pub sort_of : Request → ℕ
sort_of (ShipLine s) = 0
sort_of (ColumnLine k) = 0
sort_of (LoadLine l) = 0
sort_of (HoldLine n h) = 0
sort_of (DropLine n) = 0
sort_of JudgeLine = 0
sort_of ClearLine = 0
sort_of ShowLine = 1
sort_of TotalLine = 3
sort_of (WeighingLine (Weight i)) = 4
sort_of (WeighingLine (Weighed fs)) = 5
sort_of (WeighingLine Unweigh) = 6

-- what asks for one of document 01's forms is such a request
asked : {o : Option Request} → OfDocument01 o → (a : Request) × (o ≡ Some a) × Of01 a
asked ship = (_, refl, ship)
asked column = (_, refl, column)
asked load = (_, refl, load)
asked hold = (_, refl, hold)
asked drop = (_, refl, drop)
asked judge = (_, refl, judge)
asked clear = (_, refl, clear)

sort_01 : {a : Request} → Of01 a → sort_of a ≡ 0
sort_01 ship = refl
sort_01 column = refl
sort_01 load = refl
sort_01 hold = refl
sort_01 drop = refl
sort_01 judge = refl
sort_01 clear = refl

-- ---- a line is a form, a show of one, or begins with a word of its own
abbrev pub own_word : LineWord → List ℕ
own_word (OfForm w) = []
own_word TotalWord = bytes "total"
own_word WeightWord = bytes "weight"
own_word WeighedWord = bytes "weighed"
own_word UnweighWord = bytes "unweigh"

abbrev pub own_sort : LineWord → ℕ
own_sort (OfForm w) = 0
own_sort TotalWord = 3
own_sort WeightWord = 4
own_sort WeighedWord = 5
own_sort UnweighWord = 6

-- it is told from forms, shows and no shape, and the words from each other
own_late : (w : LineWord) → 0 < own_sort w → 2 < own_sort w
own_late (OfForm w) own = absurd (omega arith)
own_late TotalWord own = omega arith
own_late WeightWord own = omega arith
own_late WeighedWord own = omega arith
own_late UnweighWord own = omega arith

abbrev word_by : ℕ → LineWord
word_by n = cond (eqb n 3) TotalWord (cond (eqb n 4) WeightWord (cond (eqb n 5) WeighedWord UnweighWord))

word_back : (w : LineWord) → 0 < own_sort w → word_by (own_sort w) ≡ w
word_back (OfForm w) own = absurd (omega arith)
word_back TotalWord own = refl
word_back WeightWord own = refl
word_back WeighedWord own = refl
word_back UnweighWord own = refl

-- what such a line yields
own_yields : (w : LineWord) (ts : List Token) → 0 < own_sort w → Yields (λ (r : Request). sort_of r ≡ own_sort w) (line_by w ts)
own_yields (OfForm w) ts own = absurd (omega arith)
own_yields TotalWord ts own = yields_then (close? ts) (λ u us. yields refl)
own_yields WeightWord ts own = yields_then (number? ts) (λ t us. yields_then (last_numbers? 1 us) (λ v ws. yields refl))
own_yields WeighedWord ts own = yields_then (last_numbers? 1 ts) (λ v us. yields refl)
own_yields UnweighWord ts own = yields_then (close? ts) (λ u us. yields refl)

own_kind : (w : LineWord) (vs : List Token) (a : Request) (us : List Token) → 0 < own_sort w → line_by w vs ≡ got a us → sort_of a ≡ own_sort w
own_kind w vs a us own e = yielded (λ r. sort_of r ≡ own_sort w) a us (own_yields w vs own) e

-- a run names such a line, or a form
data Named (r : List ℕ) : Option LineWord → Type 0 where
  by_word : {w : LineWord} → 0 < own_sort w → r ≡ own_word w → Named r (Some w)
  by_form : {w : Option LineWord} → w ≡ option_map OfForm (form_word r) → Named r w

of_form : (w : Option FormWord) (ts : List Token) → behind? line_by (option_map OfForm w) ts ≡ behind? form_by w ts
of_form (Some w) ts = refl
of_form None ts = refl

named_as : (r : List ℕ) → Named r (line_word r)
unfolding named
named_as r =
    by (is r "total") (λ e. by_word (omega arith) (same_true r (bytes "total") e))
    (by (is r "weight") (λ e. by_word (omega arith) (same_true r (bytes "weight") e))
    (by (is r "weighed") (λ e. by_word (omega arith) (same_true r (bytes "weighed") e))
    (by (is r "unweigh") (λ e. by_word (omega arith) (same_true r (bytes "unweigh") e)) (by_form refl))))
  where
    by : (x : Bool) {v w : Option LineWord} → (x ≡ true → Named r v) → Named r w → Named r (cond x v w)
    by true p q = p refl
    by false p q = q

pub data Read (ts : List Token) (a : Request) (us : List Token) : Type 0 where
  a_form : form? ts ≡ got a us → Read ts a us
  a_show : (vs : List Token) → ts ≡ opened ∷ run (bytes "show") ∷ vs → show? vs ≡ got a us → Read ts a us
  an_own : (w : LineWord) (vs : List Token) → sort_of a ≡ own_sort w → 0 < own_sort w → ts ≡ opened ∷ run (own_word w) ∷ vs → line_by w vs ≡ got a us → Read ts a us

pub read_line : (ts : List Token) (a : Request) (us : List Token) → line? ts ≡ got a us → Read ts a us
read_line [] a us e = clash e
read_line (closed ∷ ts) a us e = clash e
read_line (run r ∷ ts) a us e = clash e
read_line (opened ∷ []) a us e = clash e
read_line (opened ∷ opened ∷ ts) a us e = clash e
read_line (opened ∷ closed ∷ ts) a us e = clash e
read_line (opened ∷ run r ∷ ts) a us e = by (is r "show") refl e
  where
    no_show : (w : Option LineWord) → Named r w → behind? line_by w ts ≡ got a us → Read (opened ∷ run r ∷ ts) a us
    no_show (Some w) (by_word s p) e = an_own w ts (own_kind w ts a us s e) s (ap (λ q. opened ∷ run q ∷ ts) p) e
    no_show w (by_form p) e = a_form (sym (of_form (form_word r) ts) ∙ rw p at e)

    by : (x : Bool) → is r "show" ≡ x → cond x (show? ts) (behind? line_by (line_word r) ts) ≡ got a us → Read (opened ∷ run r ∷ ts) a us
    by true p w = a_show ts (ap (λ q. opened ∷ run q ∷ ts) (same_true r (bytes "show") p)) w
    by false p w = no_show (line_word r) (named_as r) w

-- a word of its own is no form's
own_none : (w : LineWord) → 0 < own_sort w → form_word (own_word w) ≡ None
unfolding named same
own_none (OfForm w) own = absurd (omega arith)
own_none TotalWord own = refl
own_none WeightWord own = refl
own_none WeighedWord own = refl
own_none UnweighWord own = refl

pub form_line : (ts : List Token) (a : Request) (us : List Token) → form? ts ≡ got a us → line? ts ≡ got a us
unfolding named same
form_line [] a us e = clash e
form_line (closed ∷ ts) a us e = clash e
form_line (run r ∷ ts) a us e = clash e
form_line (opened ∷ []) a us e = clash e
form_line (opened ∷ opened ∷ ts) a us e = clash e
form_line (opened ∷ closed ∷ ts) a us e = clash e
form_line (opened ∷ run r ∷ ts) a us e = by (is r "show") refl
  where
    no_show : is r "show" ≡ true → form_word r ≡ None
    no_show p = rw (same_true r (bytes "show") p)

    other : (w : Option LineWord) → Named r w → behind? line_by w ts ≡ got a us
    other (Some w) (by_word s p) = clash (rw (p, own_none w s) at e)
    other w (by_form p) = rw p (of_form (form_word r) ts ∙ e)

    by : (x : Bool) → is r "show" ≡ x → cond x (show? ts) (behind? line_by (line_word r) ts) ≡ got a us
    by true p = clash (rw (no_show p) at e)
    by false p = other (line_word r) (named_as r)

-- what a show reads: a form, and the bracket behind it
show_reads : (vs : List Token) (a : Request) (us : List Token) → show? vs ≡ got a us → (a ≡ ShowLine) × ((b : Request) × (form? vs ≡ got b (closed ∷ us)))
show_reads vs a us e = by (form? vs) refl e
  where
    then : (b : Request) (ws : List Token) → form? vs ≡ got b ws → (close? ws and_then λ u xs. got (ShowLine) xs) ≡ got a us → (a ≡ ShowLine) × ((b : Request) × (form? vs ≡ got b (closed ∷ us)))
    then b [] q e = clash e
    then b (opened ∷ ws) q e = clash e
    then b (run r ∷ ws) q e = clash e
    then b (closed ∷ ws) q e = let t : ws ≡ us = cc in (cc, (b, rw (← t) q))

    by : (r : Parsed Request) → form? vs ≡ r → (r and_then λ b ws. close? ws and_then λ u xs. got (ShowLine) xs) ≡ got a us → (a ≡ ShowLine) × ((b : Request) × (form? vs ≡ got b (closed ∷ us)))
    by none q e = clash e
    by (got b ws) q e = then b ws q e

-- ---- the request of a whole line
whole_reads : (r : Parsed Request) (a : Request) → whole? r ≡ Some a → r ≡ got a []
whole_reads (got b []) a e = let h : b ≡ a = cc in rw h
whole_reads (got b (t ∷ ts)) a e =
    let z : ◌≡◌ {A = ℕ} 0 1 = cc in absurd (omega arith)
whole_reads none a e =
    let z : ◌≡◌ {A = ℕ} 0 1 = cc in absurd (omega arith)

-- a line of a shape is read to its end
pub line_reads : (ts : List Token) (a : Request) → request_of ts ≡ Some a → line? ts ≡ got a []
unfolding request_of
line_reads ts a e = whole_reads (line? ts) a e

pub shape_read : (ts : List Token) → (request_of ts ≡ None → ⊥) → (a : Request) × (line? ts ≡ got a [])
shape_read ts n = by (request_of ts) refl
  where
    by : (o : Option Request) → request_of ts ≡ o → (a : Request) × (line? ts ≡ got a [])
    by (Some a) e = (a, line_reads ts a e)
    by None e = absurd (n e)

-- the request of a line, or a form, is what it reads as
pub line_request : (ts : List Token) (a : Request) → line? ts ≡ got a [] → request_of ts ≡ Some a
unfolding request_of
line_request ts a e = rw e

form_request : (form : List Token) (a : Request) → form? form ≡ got a [] → request_of form ≡ Some a
form_request form a e = line_request form a (form_line form a [] e)

-- tokens that ask for one of document 01's forms are such a form
pub asked_form : (form : List Token) → OfDocument01 (request_of form) → (a : Request) × (form? form ≡ got a [])
asked_form form k =
    let w = asked k in
    by w.0 w.2 (read_line form w.0 [] (line_reads form w.0 w.1))
  where
    by : (a : Request) → Of01 a → Read form a [] → (a : Request) × (form? form ≡ got a [])
    by a k (a_form e) = (a, e)
    by a k (a_show vs t e) = absurd (omega (arith, sort_01 k, ap sort_of (show_reads vs a [] e).0))
    by a k (an_own w vs s own t e) = absurd (omega (arith, sort_01 k))

-- ---- a show
pub show_found : (ts : List Token) → request_of ts ≡ Some ShowLine → (form : List Token) × ShowOf ts form
show_found ts k = by (read_line ts ShowLine [] (line_reads ts ShowLine k))
  where
    by : Read ts ShowLine [] → (form : List Token) × ShowOf ts form
    by (a_form e) = absurd (omega (arith, sort_01 (form_kind ts ShowLine [] e)))
    by (an_own w vs s own t e) = absurd (omega (arith, own_late w own))
    by (a_show vs t e) =
        let s = (show_reads vs ShowLine [] e).1 in
        let f = form_frames vs s.0 (closed ∷ []) s.1 in
        let alone : form? f.front ≡ got s.0 [] = rw (append-nil f.front) at (f.again []) in
        (f.front, (t ∙ ap (λ l. opened ∷ run (bytes "show") ∷ l) f.same, rw (form_request f.front s.0 alone) (form_kind f.front s.0 [] alone)))

pub show_taken : (ts form : List Token) → ShowOf ts form → request_of ts ≡ Some ShowLine
unfolding request_of same
show_taken ts form w =
    let a = asked_form form w.1 in
    let f = form_frames form a.0 [] a.1 in
    let front : f.front ≡ form = sym (f.same ∙ append-nil f.front) in
    let e : form? (form ++ closed ∷ []) ≡ got a.0 (closed ∷ []) = ap (λ l. form? (l ++ closed ∷ [])) (sym front) ∙ f.again (closed ∷ []) in
    rw (w.0, e)

-- ---- a line with a word of its own
pub own_found : (w : LineWord) (ts : List Token) → 0 < own_sort w → (a : Request) → request_of ts ≡ Some a → sort_of a ≡ own_sort w → (vs : List Token) × (ts ≡ opened ∷ run (own_word w) ∷ vs) × (line_by w vs ≡ got a [])
own_found w ts own a e k = by (read_line ts a [] (line_reads ts a e))
  where
    by : Read ts a [] → (vs : List Token) × (ts ≡ opened ∷ run (own_word w) ∷ vs) × (line_by w vs ≡ got a [])
    by (a_form f) = absurd (omega (arith, sort_01 (form_kind ts a [] f)))
    by (a_show vs t f) = absurd (omega (arith, own_late w own, ap sort_of (show_reads vs a [] f).0))
    by (an_own u vs s p t f) = let q : u ≡ w = sym (word_back u p) ∙ ap word_by (sym s ∙ k) ∙ word_back w own in (vs, rw (← q) t, rw (← q) f)
