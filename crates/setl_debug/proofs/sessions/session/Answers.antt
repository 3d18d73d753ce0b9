use Rattle.std.proofs.Common.{◌+◌, ◌++◌, ◌∷◌, ◌∙◌, [], take, sym, ap, subst, arith}
use Rattle.std.proofs.lemmas.List.{take_more}
use Rattle.setl_value_pages.specs.ListLaws.{item_there}
use Rattle.setl_debug.specs.Ends.{Ends}
use Rattle.setl_debug.specs.code.Steps.{Breaks, IsFollowed, Steps}
use Rattle.setl_debug.proofs.Following.{broken, followed_more}
use Rattle.setl_debug.proofs.sessions.session.Goals as goal

pub loop-command-preserved : goal.loop-command-preserved
loop-command-preserved g c =
    let xs = c.commands-command-items.result.now in
    let x = c.command-item.result in
    let i = c.loop-command.command-index in
    let shows = g.T.Target.shows (g.T.Target.run c.args.target.now) in
    let before = g.O.Sink.held c.args.out.now in
    let after = g.O.Sink.held c.follow.new.out in
    let step = subst (λ r. Steps (g.T.Target.shows r) x c.loop-command.at.turns (g.O.Sink.held c.loop-command.out) after (g.O.Sink.faults c.loop-command.out) (g.O.Sink.faults c.follow.new.out) c.in-Ok.next.turns) c.loop-command.invariant.run c.in-Ok.ensures.ok in
    let one_more = followed_more shows (take i xs) x before (g.O.Sink.held c.loop-command.out) after c.loop-command.at.turns (g.O.Sink.faults c.loop-command.out) (g.O.Sink.faults c.follow.new.out) c.in-Ok.next.turns c.loop-command.invariant.done step in
    let front = sym (take_more xs i x (omega arith) ∙ ap (λ y. take i xs ++ y ∷ []) (sym c.command-item.is)) in
    record {
      run = c.follow.ensures.run ∙ c.loop-command.invariant.run;
      done = subst (λ ys. IsFollowed shows ys before after c.in-Ok.next.turns) front one_more;
      count = step.count ∙ c.loop-command.invariant.count;
      small = c.in-Ok.ensures.small;
    }

pub returns-in-Err-clause-ends : goal.returns-in-Err-clause-ends
returns-in-Err-clause-ends g c =
    let xs = c.commands-command-items.result.now in
    let x = c.command-item.result in
    let i = c.loop-command.command-index in
    let k = c.loop-command.at.turns in
    let shows = g.T.Target.shows (g.T.Target.run c.args.target.now) in
    let before = g.O.Sink.held c.args.out.now in
    let between = g.O.Sink.held c.loop-command.out in
    let after = g.O.Sink.held c.follow.new.out in
    let rose = g.O.Sink.faults c.follow.new.out in
    let on_run = subst (λ r. Breaks (g.T.Target.shows r) x k between after (g.O.Sink.faults c.loop-command.out) rose c.in-Err.ended) c.loop-command.invariant.run c.in-Err.ensures.err in
    let counted = subst (λ f. Breaks shows x k between after f rose c.in-Err.ended) c.loop-command.invariant.count on_run in
    subst (λ ys. Ends shows ys before after (g.O.Sink.faults c.args.out.now) rose c.in-Err.ended) c.commands-command-items.ensures.value
    (broken shows xs i x before between after k (g.O.Sink.faults c.args.out.now) rose c.in-Err.ended (item_there xs i x (omega arith) c.command-item.is) c.loop-command.invariant.done counted)
