use Rattle.std.proofs.Common.{◌≡◌, ◌∙◌, ◌+◌, ◌++◌, ◌∷◌, [], ℕ, length, ap, sym, subst}
use Rattle.std.proofs.lemmas.List.{length_push}
use Rattle.setl_live_reads.specs.Blocks.{IsLast}
use Rattle.setl_live_reads.proofs.Cutting.{all_more}
use Rattle.setl_live_reads.proofs.blocks.last_steps.Goals as goal

pub places-preserved : goal.places-preserved
places-preserved c =
    let more : c.push.new.self.items ≡ c.places.lasts.items ++ c.last_of.result ∷ [] = c.in_ok-push.ensures.items in
    record {
      sizes = ap length more ∙ length_push c.places.lasts.items c.last_of.result ∙ ap (λ (n : ℕ). n + 1) c.places.invariant.sizes;
      lasts = all_more (IsLast c.args.nodes.now c.args.firsts.now c.args.blocks.now) c.places.lasts.items c.push.new.self.items c.last_of.result more (subst (λ (b : ℕ). IsLast c.args.nodes.now c.args.firsts.now c.args.blocks.now b c.last_of.result) (sym c.places.invariant.sizes) c.last_of.ensures) c.places.invariant.lasts;
    }
