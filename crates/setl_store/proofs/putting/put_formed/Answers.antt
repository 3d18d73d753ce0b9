use Rattle.setl_modes.specs.Modes.{mode_of}
use Rattle.setl_value.specs.code.DatumOf.{datum}
use Rattle.setl_store.proofs.Gaining.{gained}
use Rattle.setl_store.proofs.putting.put_formed.Goals as goal

pub returns-clause-gained : goal.returns-clause-gained
returns-clause-gained c = λ kept.
    gained c.bases_are_lengthened.ensures.members (mode_of c.args.mode.now) (datum c.args.value.now) c.args.bases.now c.formed.new.bases kept c.requires.there c.in_ok-slot.ensures.lengthened
