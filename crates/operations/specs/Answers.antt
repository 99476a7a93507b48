-- What an operation answers as the program finds it, and the paper's code for it. The laws of proofs/Answered.antt lead from this to the codes of
-- specs/Operations.antt.
use Rattle.std.specs.Prelude.{Bool, true, false, Result, Ok, Err, ℕ, cond}
use Rattle.operations.specs.declared.Refusal.{Refusal}
use Rattle.operations.specs.declared.Refusal.TheVariants.{Limits, NoFit, NotAbove, Full, NoHold, TooHeavy, TooLight}

abbrev pub refusal_code : Refusal → ℕ
refusal_code Limits = 20
refusal_code NoFit = 21
refusal_code NotAbove = 22
refusal_code Full = 23
refusal_code NoHold = 24
refusal_code TooHeavy = 26
refusal_code TooLight = 27

abbrev pub answer_code : Result (Unit {0}) Refusal → ℕ
answer_code (Ok done) = 0
answer_code (Err why) = refusal_code why

-- a test that refuses
abbrev pub tested : Refusal → Bool → Result (Unit {0}) Refusal
tested why true = Ok tt
tested why false = Err why

-- limits, and a test behind them
abbrev pub tested_within : (inside passed : Bool) → Refusal → Result (Unit {0}) Refusal
tested_within inside passed why = cond inside (tested why passed) (Err Limits)
