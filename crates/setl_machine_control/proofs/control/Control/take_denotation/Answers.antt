use Rattle.std.proofs.Common.{true, Ok, Err, refl, ap}
use Rattle.setl_text.specs.code.Reads.{ahead}
use Rattle.setl_text.specs.declared.Got.TheVariants.{Value, Om, End}
use Rattle.setl_machine_control.specs.Control.{ControlState}
use Rattle.setl_machine_control.proofs.Denotations.{taken_in}
use Rattle.setl_machine_control.proofs.control.Control.take_denotation.Goals as goal

pub returns-in-Ok-Value-clause-took_in : goal.returns-in-Ok-Value-clause-took_in
returns-in-Ok-Value-clause-took_in g c =
    let i = c.self.inside in
    let from : ControlState = record { turns = i.turns; atom = i.atom; eof = i.eof; reader = i.reader } in
    let a = c.in-Ok-Value.ensures in
    taken_in c.args.self.now from (record from { reader = c.next.new.self }) (λ ended. ahead ended (g.I.Source.left c.args.input.now)) (ahead c.next.new.self.ended (g.I.Source.left c.next.new.input)) (Ok c.in-Ok-Value.field-0) (Ok (Value c.in-Ok-Value.value)) _ c.self.view_is (ap Ok c.in-Ok-Value.field-0-is) c.requires a.answer a.fault refl

pub returns-in-Ok-Om-clause-took_in : goal.returns-in-Ok-Om-clause-took_in
returns-in-Ok-Om-clause-took_in g c =
    let i = c.self.inside in
    let from : ControlState = record { turns = i.turns; atom = i.atom; eof = i.eof; reader = i.reader } in
    let a = c.in-Ok-Om.ensures in
    taken_in c.args.self.now from (record from { reader = c.next.new.self }) (λ ended. ahead ended (g.I.Source.left c.args.input.now)) (ahead c.next.new.self.ended (g.I.Source.left c.next.new.input)) (Ok c.in-Ok-Om.field-0) (Ok Om) _ c.self.view_is (ap Ok c.in-Ok-Om.field-0-is) c.requires a.answer a.fault refl

pub returns-in-Ok-End-clause-took_in : goal.returns-in-Ok-End-clause-took_in
returns-in-Ok-End-clause-took_in g c =
    let i = c.self.inside in
    let from : ControlState = record { turns = i.turns; atom = i.atom; eof = i.eof; reader = i.reader } in
    let a = c.in-Ok-End.ensures in
    taken_in c.args.self.now from (record from { eof = true; reader = c.next.new.self }) (λ ended. ahead ended (g.I.Source.left c.args.input.now)) (ahead c.next.new.self.ended (g.I.Source.left c.next.new.input)) (Ok c.in-Ok-End.field-0) (Ok End) _ c.self.view_is (ap Ok c.in-Ok-End.field-0-is) c.requires a.answer a.fault refl

pub returns-in-Err-clause-took_in : goal.returns-in-Err-clause-took_in
returns-in-Err-clause-took_in g c =
    let i = c.self.inside in
    let from : ControlState = record { turns = i.turns; atom = i.atom; eof = i.eof; reader = i.reader } in
    let a = c.in-Err.ensures in
    taken_in c.args.self.now from (record from { reader = c.next.new.self }) (λ ended. ahead ended (g.I.Source.left c.args.input.now)) (ahead c.next.new.self.ended (g.I.Source.left c.next.new.input)) (Err c.in-Err.fault) (Err c.in-Err.fault) _ c.self.view_is refl c.requires a.answer a.fault refl
