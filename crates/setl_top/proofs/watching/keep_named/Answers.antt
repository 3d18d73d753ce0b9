use Rattle.std.proofs.Common.{◌∙◌, ◌<◌, length, map, sym, ap, rules, arith}
use Rattle.setl_top.proofs.Keeping.{kept, dropped, named_from}
use Rattle.setl_top.proofs.watching.keep_named.Goals as goal

pub loop-at-preserved-then-name_of-name : goal.loop-at-preserved-then-name_of-name
loop-at-preserved-then-name_of-name g c =
    let within : c.loop-at.at < length c.loop-at.watchers.items = search rules in
    record {
      kept = kept (λ w. (goal.Watcher-dyn g (w.vtable, w.value)).watch w.value) c.args.name c.loop-at.watchers.items c.loop-at.at c.index.result.now within c.index.ensures (sym c.name_of.ensures ∙ c.if-name_of-name.true) ∙ c.loop-at.invariant.kept;
      within = omega (arith, within);
    }

pub loop-at-preserved : goal.loop-at-preserved
loop-at-preserved g c =
    let within : c.loop-at.at < length c.loop-at.watchers.items = search rules in
    record {
      kept = ap (λ ws. named_from c.loop-at.at c.args.name (map (λ w. (goal.Watcher-dyn g (w.vtable, w.value)).watch w.value) ws)) c.remove.ensures.items ∙ dropped (λ w. (goal.Watcher-dyn g (w.vtable, w.value)).watch w.value) c.args.name c.loop-at.watchers.items c.loop-at.at c.index.result.now within c.index.ensures (λ same. c.if-name_of-name.false (c.name_of.ensures ∙ same)) ∙ c.loop-at.invariant.kept;
      within = search rules;
    }
