use Rattle.std.proofs.Common.{◌∙◌, ap}
use Rattle.setl_watch.specs.Profiles.{with_call}
use Rattle.setl_watch.proofs.Profiling.{plain, first_counted, next_counted}
use Rattle.setl_watch.proofs.profile.Profile.count_call.Goals as goal
use Rattle.setl_watch.proofs.profile.Profile.count_call.Goals.{in-None, in-Some+in-Some-checked_add}

pub returns-clause-ok : goal.returns-clause-ok
returns-clause-ok c =
    let entries = c.in_ok-insert.ensures.entries in
    let key = c.in_ok-key.ensures.items in
    let calls = c.self.inside.calls.entries in
    let name = ap (λ n. with_call c.args.line n (plain calls)) c.bytes-name.ensures.value ∙ ap (with_call c.args.line c.args.name.now) c.self.view_is in
    elim c.match-get.branch [
      | in-None w ↦ first_counted calls c.insert.new.self.entries c.in_ok-key.key c.bytes-name.result.now c.args.line c.match-get.calls (rw w.self-inside-is at entries) key w.calls-is w.in-None.ensures.value ∙ name
      | in-Some+in-Some-checked_add w ↦ next_counted calls c.insert.new.self.entries c.in_ok-key.key c.bytes-name.result.now c.args.line w.in-Some.field-0.now c.match-get.calls w.in-Some-checked_add.count (rw w.self-inside-is at entries) key w.calls-is w.in-Some-checked_add.ensures.1 w.in-Some.ensures.value ∙ name
    ]
