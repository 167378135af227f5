use Rattle.std.proofs.Common.{◌≡◌, ℕ, ◌<◌, [], ◌∷◌, sym, subst}
use Rattle.grammar.specs.Machine.{num}
use Rattle.grammar.specs.Phrases.{digits, strict}
use Rattle.grammar.specs.declared.Name.{Name}
use Rattle.text.specs.Spelled.{Named, Took}
use Rattle.text.specs.declared.reader.Reader.{Reader}
use Rattle.text.proofs.Forming.{fact_named, enabled_named, taken_named}
use Rattle.text.proofs.reader.Reader.named.Goals as goal

-- the same at an equal name
at : {a b : Name} {r r' : Reader} {q : ℕ} → a ≡ b → (q < strict a) × Took (num a ∷ []) r r' (digits q) → (q < strict b) × Took (num b ∷ []) r r' (digits q)
at {a} {b} {r} {r'} {q} eq h = subst (λ a. (q < strict a) × Took (num a ∷ []) r r' (digits q)) eq h

pub returns-in-Fact : goal.returns-in-Fact
returns-in-Fact c =
    let h = at c.in-Fact.is c.in_ok-n.ensures in
    subst (λ a. Named a c.args.self.now c.number.new.self c.args.out.now c.add.new.self) (sym c.in-Fact.is)
    (fact_named h.0 h.1 c.add.ensures)

pub returns-in-Enabled : goal.returns-in-Enabled
returns-in-Enabled c =
    let h = at c.in-Enabled.is c.in_ok-n.ensures in
    subst (λ a. Named a c.args.self.now c.number.new.self c.args.out.now c.add-in-Enabled.new.self) (sym c.in-Enabled.is)
    (enabled_named h.0 h.1 c.add-in-Enabled.ensures)

pub returns-in_ok-expect-in-Taken : goal.returns-in_ok-expect-in-Taken
returns-in_ok-expect-in-Taken c =
    let h = at c.in-Taken.is c.in_ok-n.ensures in
    subst (λ a. Named a c.args.self.now c.expect.new.self c.args.out.now c.add-in-Taken.new.self) (sym c.in-Taken.is)
    (taken_named h.0 h.1 c.in_ok-expect-in-Taken.ensures c.add-in-Taken.ensures)
