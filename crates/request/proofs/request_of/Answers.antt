-- `request_of`: the request of a line, with nothing behind it.
use Rattle.std.proofs.Common.{◌≡◌, Some, None, cond, option_map, Bool, true, false, List}
use mathlib.Core.Path.{refl, ap}
use Rattle.text.specs.Token.{Token, tokens}
use Rattle.items.specs.Grammar.{got, whole?}
use Rattle.items.specs.Reads.{is_end}
use Rattle.items.proofs.Walks.{carries, carries_none, whole_end, whole_more}
use Rattle.forms.specs.declared.Request.{Request}
use Rattle.forms.specs.Carried.{carried_request}
use Rattle.request.specs.Shape.{line?, request_of}
use Rattle.request.proofs.request_of.Goals as goal

pub returns-in_default : goal.returns-in_default
unfolding request_of
returns-in_default c = rw (carries_none carried_request (line? (tokens c.args.line.now)) c.in_default.ensures.read)

-- what was read, by whether it is the whole line
whole_if_end : (a b : Request) (us : List Token) → b ≡ carried_request a → (x : Bool) → is_end us ≡ x → cond x (Some b) None ≡ option_map carried_request (whole? (got a us))
whole_if_end a b us k true e = rw (whole_end a us e) (ap Some k)
whole_if_end a b us k false e = rw (whole_more a us e)

pub returns : goal.returns
unfolding request_of
returns c =
    let us = tokens c.in-Some.rest.now in
    let i = carries carried_request (line? (tokens c.args.line.now)) c.read_line.new.request us c.in-Some.ensures.read in
    rw (i.is, c.is_end.ensures) (whole_if_end i.read _ us i.kept (is_end us) refl)
