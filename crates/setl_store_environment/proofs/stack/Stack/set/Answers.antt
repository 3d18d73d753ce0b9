use Rattle.std.proofs.Common.{◌∙◌, ap, arith, length}
use Rattle.std.proofs.lemmas.List.{length-set}
use Rattle.setl_store_environment.specs.Stack.{placed_at}
use Rattle.setl_store_environment.proofs.Places.{set_undone}
use Rattle.setl_store_environment.proofs.stack.Stack.set.Goals as goal

pub returns-clause-back : goal.returns-clause-back
returns-clause-back g c =
    let r = c.replaced-content in
    let xs = c.self.inside.items.items in
    record {
      room = r.ensures.room ∙ ap (λ s. s.room) c.self.view_is;
      undone = ap (λ ys. placed_at ys c.args.at r.result) r.ensures.after ∙ set_undone xs c.args.at c.args.value r.result (omega (arith, c.requires, ap (λ s. length s.items) c.self.view_is)) r.ensures.before ∙ ap (λ s. s.items) c.self.view_is;
      fits = record {
        inside = omega (arith, c.requires, ap (λ s. length s.items) c.self.view_is, r.ensures.room, c.self.inside.items.ok.0, c.self.inside.items.ok.1);
        near = omega (arith, c.requires, ap length r.ensures.after, length-set xs c.args.at c.args.value, ap (λ s. length s.items) c.self.view_is);
      };
    }
