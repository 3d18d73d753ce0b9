use Rattle.std.proofs.Common.{◌≡◌, map, drop}
use Rattle.setl_program.specs.code.Plain.{plain_variable}
use Rattle.setl_gen_emitter.specs.Table.{all_noted}
use Rattle.setl_gen_emitter.proofs.names.Names.note_all.Given as goal

abbrev pub invariant-loop-x : goal.invariant-loop-x
invariant-loop-x l = all_noted (map (λ x. plain_variable x.now) (drop l.x-index l.all)) l.self ≡ all_noted (map (λ x. plain_variable x.now) l.all) l.initial.self
