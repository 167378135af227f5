-- Two refusals that tell a planner the same are the same. Assumes nothing.
use Rattle.std.proofs.Common.{◌≡◌, ℕ, cond, eqb, sym, refl, ap, ◌∙◌}
use Rattle.refusal.specs.declared.Cause.{Cause}
use Rattle.refusal.specs.declared.Cause.TheVariants.{TableLength, TableEntry, TableParts, TableElementary, TextLength, TextByte, TextEnd, TextNumber, TextTable, PlantLength, PlantLimit, PlantRange, PlantRepeat, RuleSize, RuleValue, StateOpen, BookFull, StateClosed, EventBeyond, WorkspaceShort, WalkUnderWay, NoWalk, NoSuchIndex, RunShape, NotARun}
use Rattle.refusal.specs.declared.Layer.{Layer}
use Rattle.refusal.specs.declared.Refusal.{Refusal}
use Rattle.refusal.specs.Causes.{number_of, Gives}

-- the cause with a number
abbrev cause_of : ℕ → Cause
cause_of n =
    cond (eqb n 11) TableLength
    (cond (eqb n 12) TableEntry
    (cond (eqb n 13) TableParts
    (cond (eqb n 14) TableElementary
    (cond (eqb n 21) TextLength
    (cond (eqb n 22) TextByte
    (cond (eqb n 23) TextEnd
    (cond (eqb n 24) TextNumber
    (cond (eqb n 25) TextTable
    (cond (eqb n 31) PlantLength
    (cond (eqb n 32) PlantLimit
    (cond (eqb n 33) PlantRange
    (cond (eqb n 34) PlantRepeat
    (cond (eqb n 35) RuleSize
    (cond (eqb n 36) RuleValue
    (cond (eqb n 41) StateOpen
    (cond (eqb n 42) BookFull
    (cond (eqb n 43) StateClosed
    (cond (eqb n 44) EventBeyond
    (cond (eqb n 45) WorkspaceShort
    (cond (eqb n 47) WalkUnderWay
    (cond (eqb n 48) NoWalk
    (cond (eqb n 49) NoSuchIndex
    (cond (eqb n 50) RunShape NotARun)))))))))))))))))))))))

back : (c : Cause) → cause_of (number_of c) ≡ c
back TableLength = refl
back TableEntry = refl
back TableParts = refl
back TableElementary = refl
back TextLength = refl
back TextByte = refl
back TextEnd = refl
back TextNumber = refl
back TextTable = refl
back PlantLength = refl
back PlantLimit = refl
back PlantRange = refl
back PlantRepeat = refl
back RuleSize = refl
back RuleValue = refl
back StateOpen = refl
back BookFull = refl
back StateClosed = refl
back EventBeyond = refl
back WorkspaceShort = refl
back WalkUnderWay = refl
back NoWalk = refl
back NoSuchIndex = refl
back RunShape = refl
back NotARun = refl

pub same : {r s : Refusal} {n : ℕ} {l : Layer} {p : ℕ} → Gives r n l p → Gives s n l p → r ≡ s
same {r} {s} g h =
    let causes : r.cause ≡ s.cause = sym (back r.cause) ∙ ap cause_of (g.by_number ∙ sym h.by_number) ∙ back s.cause in
    let places : r.place ≡ s.place = g.at_place ∙ sym h.at_place in
    λ i. record { cause = causes i; place = places i }
