use Rattle.std.proofs.Common.{◌∙◌, ◌+◌, ap, length, map, arith}
use Rattle.setl_watch.specs.HitCounts.{hits}
use Rattle.setl_watch.specs.Profiles.{profile}
use Rattle.setl_watch.specs.code.NoticeOf.{notice_of}
use Rattle.setl_debug_machine.specs.Screens.{after_all}
use Rattle.setl_debug_machine.specs.declared.walk.Tally.{Tally}
use Rattle.setl_debug_machine.proofs.Walking.{walks_on}
use Rattle.setl_debug_machine.proofs.walk.advance.Goals as goal

pub returns-clause-walk : goal.returns-clause-walk
returns-clause-walk c =
    let s = c.args.subject.now in
    let w = c.args.walk.now in
    let told = c.in_ok-count-in-Went.ensures in
    let tally : Tally = record { turns = c.turns_taken-walk.result; written = length c.held.result.now; profile = c.count.new.tally.profile; line = c.count.new.tally.line; hits = c.count.new.tally.hits } in
    walks_on s.declarations s.input.items w c.in-Went.events c.step.new.machine tally c.in_ok-walk.field-0 c.requires.walk c.in-Went.is
    (record {
      turns = c.turns_taken-walk.ensures;
      written = ap length c.held.ensures;
      calls = told.profile ∙ ap (λ es. after_all (profile w.tally.profile) (map notice_of es)) c.deref.ensures.value;
      stores = told.hits ∙ ap (λ es. after_all (hits w.tally.hits.line w.tally.hits.stores) (map notice_of es)) c.deref.ensures.value;
      at_line = told.line;
    })
    c.in_ok-walk.ensures.writes
    c.in_ok-walk.ensures.steps
    (w.steps + 1) (omega arith)
