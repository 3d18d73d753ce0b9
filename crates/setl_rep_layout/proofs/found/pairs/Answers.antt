use Rattle.std.proofs.Common.{◌≡◌, ◌∙◌, ◌++◌, ◌≤◌, map, ap, subst, sym}
use Rattle.std.proofs.lemmas.List.{append-nil}
use Rattle.setl_value.specs.Datum.{depth, set_of}
use Rattle.setl_value.specs.Order.{IsRising}
use Rattle.setl_value.specs.code.Body.{Members}
use Rattle.setl_value.specs.code.DatumOf.{datum}
use Rattle.setl_rep_layout.specs.Found.{pairs_in}
use Rattle.setl_rep_layout.proofs.Finding.{all_pairs, rising_pairs, shallow_pairs}
use Rattle.setl_rep_layout.proofs.Words.{if_ok}
use Rattle.setl_rep_layout.proofs.found.pairs.Goals as goal

pub returns-then-is_map : goal.returns-then-is_map
returns-then-is_map c = if_ok c.copy.result (λ g e. ap Members e ∙ all_pairs (Members c.args.f.now) (sym c.is_map.ensures ∙ c.if-is_map.true)) c.copy.ensures.same

pub from_rising-requires : goal.from_rising-requires
from_rising-requires c =
    let chosen = map datum c.loop-v.chosen.items in
    let is : pairs_in (Members c.args.f.now) ≡ chosen = sym c.loop-v.invariant ∙ ap (λ l. chosen ++ pairs_in l) c.in-None.ensures.steps.0 ∙ append-nil chosen in
    record {
      rising = subst IsRising is (rising_pairs (Members c.args.f.now) c.learn.ensures);
      shallow = subst (λ l. depth (set_of l) ≤ 500) is (shallow_pairs (Members c.args.f.now) c.learn.ensures);
    }
