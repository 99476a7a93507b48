-- The codes 10 to 13 are given where the paper's words say so.
use mathlib.Core.Path.{◌≡◌, refl, sym, ◌∙◌}
use mathlib.Core.Bool.{Bool, true, false, cond, not}
use mathlib.Core.List.{List}
use Prim.Native.Nat.{ℕ}
use native.Mathlib.Omega.{arith}
use lib.Dec.{ltb}
use lib.ListN.{length}
use borrow.Author.Tests.{ltb-true, ltb-false}
use Rattle.whole.specs.Lists.{all}
use Rattle.line_codes.specs.Line.{Reading}
use Rattle.std.specs.Prelude.{Ok, Err}
use Rattle.line_codes.specs.declared.Fault.TheVariants.{TooLong, BadByte, NotOneForm, BadNumber, NoShape}
use Rattle.text.specs.Token.{allowed, tokens}
use Rattle.line_codes.specs.Line.{is_show, deepest, one_form, reading_of, reading_code}
use Rattle.line_codes.specs.Codes.{Nested, four, five, NoNumber, LineCode}
use Rattle.line_codes.proofs.Bytes.{other_byte, all_allowed}
use Rattle.line_codes.proofs.Sounds.{sound}
use Rattle.line_codes.proofs.Forms.{form_passes, form_found}
use Rattle.line_codes.proofs.Shows.{shows, begins}
use Rattle.line_codes.proofs.Words.{bad_found, no_number_fails}

-- ---- 12: one form, as deep as its line may be
module _ (s : List ℕ) where
  nested_passes : (x : Bool) → is_show (tokens s) ≡ x → Nested s → one_form (deepest (tokens s)) s ≡ true
  nested_passes true p (four f) = rw p (form_passes 4 5 s (omega arith) f)
  nested_passes false p (four f) = rw p (form_passes 4 4 s (omega arith) f)
  nested_passes x p (five b f) = rw (shows s b) (form_passes 5 5 s (omega arith) f)

  nested_found : (x : Bool) → is_show (tokens s) ≡ x → all allowed s ≡ true → one_form (deepest (tokens s)) s ≡ true → Nested s
  nested_found true p a w = five (begins s a p) (form_found 4 s (rw p at w))
  nested_found false p a w = four (form_found 3 s (rw p at w))

-- ---- the four tests in their order
clash : {P : Type 0} → true ≡ false → P
clash e = let z : ◌≡◌ {A = ℕ} 0 1 = cc in absurd (omega arith)

-- the tests of a line: longer, each byte, one form, each number
abbrev first_of : (long bytes form numbers : Bool) → Reading
first_of l b f n = cond l (Err TooLong) (cond (not b) (Err BadByte) (cond (not f) (Err NotOneForm) (cond (not n) (Err BadNumber) (Ok tt))))

module _ (s : List ℕ) where
  abbrev Codes : Reading → Type 0
  Codes r = LineCode s (reading_code r)

  by_tests : (l b f n : Bool) → ltb 2000 (length s) ≡ l → all allowed s ≡ b → one_form (deepest (tokens s)) s ≡ f → sound s ≡ n → Codes (first_of l b f n)
  by_tests true b f n el eb ef en =
      let h = ltb-true 2000 (length s) el in
      record {
        ten = (λ e. h, λ k. refl);
        eleven = (λ e. absurd (omega arith), λ k. absurd (omega (arith, k.0)));
        twelve = (λ e. absurd (omega arith), λ k. absurd (omega (arith, k.0)));
        thirteen = (λ e. absurd (omega arith), λ k. absurd (omega (arith, k.0)));
        sound = (λ e. absurd (omega arith), λ k. absurd (omega (arith, k.0)));
      }
  by_tests false false f n el eb ef en =
      let h = ltb-false 2000 (length s) el in
      let o = other_byte s eb in
      record {
        ten = (λ e. absurd (omega arith), λ k. absurd (omega arith));
        eleven = (λ e. (h, o), λ k. refl);
        twelve = (λ e. absurd (omega arith), λ k. absurd (o.2 (k.1 o.0 o.1)));
        thirteen = (λ e. absurd (omega arith), λ k. absurd (o.2 (k.1 o.0 o.1)));
        sound = (λ e. absurd (omega arith), λ k. absurd (o.2 (k.1 o.0 o.1)));
      }
  by_tests false true false n el eb ef en =
      let h = ltb-false 2000 (length s) el in
      let a = all_allowed s eb in
      let no : Nested s → ⊥ = λ f. clash (sym (nested_passes s (is_show (tokens s)) refl f) ∙ ef) in
      record {
        ten = (λ e. absurd (omega arith), λ k. absurd (omega arith));
        eleven = (λ e. absurd (omega arith), λ k. absurd (k.1.2 (a k.1.0 k.1.1)));
        twelve = (λ e. (h, a, no), λ k. refl);
        thirteen = (λ e. absurd (omega arith), λ k. absurd (no k.2));
        sound = (λ e. absurd (omega arith), λ k. absurd (no k.2));
      }
  by_tests false true true false el eb ef en =
      let h = ltb-false 2000 (length s) el in
      let a = all_allowed s eb in
      let f = nested_found s (is_show (tokens s)) refl eb ef in
      record {
        ten = (λ e. absurd (omega arith), λ k. absurd (omega arith));
        eleven = (λ e. absurd (omega arith), λ k. absurd (k.1.2 (a k.1.0 k.1.1)));
        twelve = (λ e. absurd (omega arith), λ k. absurd (k.2 f));
        thirteen = (λ e. (h, a, f, bad_found s en), λ k. refl);
        sound = (λ e. absurd (omega arith), λ k. absurd (k.3 (bad_found s en)));
      }
  by_tests false true true true el eb ef en =
      let h = ltb-false 2000 (length s) el in
      let a = all_allowed s eb in
      let f = nested_found s (is_show (tokens s)) refl eb ef in
      let good : NoNumber s → ⊥ = λ n. clash (sym en ∙ no_number_fails s n) in
      record {
        ten = (λ e. absurd (omega arith), λ k. absurd (omega arith));
        eleven = (λ e. absurd (omega arith), λ k. absurd (k.1.2 (a k.1.0 k.1.1)));
        twelve = (λ e. absurd (omega arith), λ k. absurd (k.2 f));
        thirteen = (λ e. absurd (omega arith), λ k. absurd (good k.3));
        sound = (λ e. (h, a, f, good), λ k. refl);
      }

pub line_code : (s : List ℕ) → LineCode s (reading_code (reading_of s))
unfolding reading_of
line_code s = by_tests s (ltb 2000 (length s)) (all allowed s) (one_form (deepest (tokens s)) s) (sound s) refl refl refl refl

-- a line with code 0 passes the tests
pub passes : (t : Reading) → reading_code t ≡ 0 → t ≡ Ok tt
passes (Ok tt) e = refl
passes (Err TooLong) e = absurd (omega arith)
passes (Err BadByte) e = absurd (omega arith)
passes (Err NotOneForm) e = absurd (omega arith)
passes (Err BadNumber) e = absurd (omega arith)
passes (Err NoShape) e = absurd (omega arith)
