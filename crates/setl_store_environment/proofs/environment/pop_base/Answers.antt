use Rattle.std.proofs.Common.{◌≡◌, ◌∙◌, [], ◌∷◌, ◌++◌, ap, drop, sym, reverse}
use Rattle.std.proofs.lemmas.List.{reverse-append}
use Rattle.setl_store_environment.specs.Kept.{base_of}
use Rattle.setl_store_environment.proofs.Undoing.{no_items}
use Rattle.setl_store_environment.proofs.environment.pop_base.Goals as goal
use Rattle.setl_store_environment.proofs.environment.pop_base.Goals.{In-Some}

turned : (c : In-Some) → reverse c.args.bases.now.items ≡ c.in-Some.base ∷ reverse c.pop.new.self.items
turned c =
    let items : c.args.bases.now.items ≡ c.pop.new.self.items ++ c.in-Some.base ∷ [] = c.in-Some.ensures.items in
    ap reverse items ∙ reverse-append c.pop.new.self.items (c.in-Some.base ∷ [])

pub returns-in-Some-clause-base : goal.returns-in-Some-clause-base
returns-in-Some-clause-base c = sym (ap base_of (turned c))

pub returns-in-Some-clause-rest : goal.returns-in-Some-clause-rest
returns-in-Some-clause-rest c = sym (ap (drop 1) (turned c))

pub returns-in-None-clause-base : goal.returns-in-None-clause-base
returns-in-None-clause-base c =
    sym (ap (λ l. base_of (reverse l)) (no_items c.args.bases.now.items _ c.args.bases.now.ok.0 c.in-None.ensures.cases.0))

pub returns-in-None-clause-rest : goal.returns-in-None-clause-rest
returns-in-None-clause-rest c =
    let before = no_items c.args.bases.now.items _ c.args.bases.now.ok.0 c.in-None.ensures.cases.0 in
    let after = no_items c.pop.new.self.items _ c.pop.new.self.ok.0 c.in-None.ensures.cases.1 in
    ap reverse after ∙ sym (ap (λ l. drop 1 (reverse l)) before)
