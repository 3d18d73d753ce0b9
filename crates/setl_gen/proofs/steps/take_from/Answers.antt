use Rattle.std.proofs.Common.{[], ◌∷◌, Some}
use Rattle.setl_program.specs.code.Plain.{plain_variable, selectors_of}
use Rattle.setl_code.specs.Code.{TakingOut}
use Rattle.setl_code.specs.Generated as code
use Rattle.setl_gen_emitter.specs.Emitted.{held}
use Rattle.setl_gen_emitter.specs.EmittedLaws.{then_made}
use Rattle.setl_gen.proofs.Rounds.{one_store}
use Rattle.setl_gen.proofs.steps.take_from.Goals as goal

pub returns : goal.returns
returns c =
    then_made (code.alter c.args.line (TakingOut c.args.taking) (plain_variable c.args.p.now.variable) (selectors_of c.args.p.now.selectors)) (code.store_slots c.args.line (Some (plain_variable c.args.x.now) ∷ [])) (held c.args.emitter.now) (held c.alter.new.emitter) (held c.store.new.self)
    c.in_ok-alter.ensures
    (one_store c.args.line (plain_variable c.args.x.now) (held c.alter.new.emitter) (held c.store.new.self) c.in_ok-store.ensures)
