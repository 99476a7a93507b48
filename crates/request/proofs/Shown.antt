-- A show, read by its form's word and by what stands behind it.
use mathlib.Core.Path.{◌≡◌, refl}
use mathlib.Core.List.{List}
use Prim.Native.Nat.{ℕ}
use Rattle.std.specs.Prelude.{Option, Some}
use Rattle.std.specs.Borrow.{Bor}
use Rattle.text.specs.Token.{Token}
use Rattle.items.specs.Grammar.{got, none, close?, head?}
use Rattle.items.specs.Carried.{carry}
use Rattle.items.specs.Reads.{passed_of}
use Rattle.items.proofs.Walks.{carries, carries_none}
use Rattle.forms.specs.declared.Request.{Request}
use Rattle.forms.specs.declared.Request.TheVariants.{ShowLine}
use Rattle.forms.specs.declared.FormWord.{FormWord}
use Rattle.forms.specs.Shape.{form_word, form_by}
use Rattle.forms.specs.Carried.{carried_request}
use Rattle.forms.specs.Reads.{read_into}
use Rattle.forms.proofs.Records.{bare_read}
use Rattle.request.specs.Shape.{show?}

module _ (ts : List Token) {r : List ℕ} {us : List Token} {w : FormWord} (front : head? ts ≡ got r us) (word : form_word r ≡ Some w) where
  pub show_none : carry carried_request (form_by w us) ≡ none → carry carried_request (show? ts) ≡ none
  show_none e = rw (front, word, carries_none carried_request (form_by w us) e)

  pub show_read : (q : Request) (vs : List Token) (o : Option (Bor (List ℕ))) → carry carried_request (form_by w us) ≡ got q vs → close? vs ≡ passed_of o → carry carried_request (show? ts) ≡ read_into ShowLine o
  show_read q vs o e closed =
      let i = carries carried_request (form_by w us) q vs e in
      rw (front, word, i.is) (bare_read ShowLine vs o (unfold carried_request in refl) closed)
