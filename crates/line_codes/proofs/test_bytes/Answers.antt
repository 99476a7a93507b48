-- `test_bytes`: the tests of a line's bytes, 10 and 11: the first that it fails.
use mathlib.Core.Path.{refl, ◌∙◌}
use lib.ListN.{length}
use borrow.Author.Tests.{le-ltb}
use Rattle.whole.proofs.Lists.{list_all_is}
use Rattle.text.specs.Token.{allowed}
use Rattle.line_codes.proofs.test_bytes.Goals as goal

pub returns : goal.returns
returns c =
    let s = c.args.line.now in
    c.only_allowed.ensures ∙ rw (le-ltb 2000 (length s) c.if-line-gt-LONGEST.false, list_all_is allowed s) refl
