use Rattle.std.proofs.Common.{◌≡◌, true}
use Rattle.setl_text.specs.Denoted.{IsDecided}
use Rattle.setl_text.specs.code.Reads.{ahead, StaysHonest, TakesOff}
use Rattle.setl_text.specs.code.Scans.{token_of, opens, TokenFits, IsShallow}
use Rattle.setl_text.proofs.Going.{Went}
use Rattle.setl_text.proofs.read.Reader.read.Given as goal

abbrev pub invariant-reads : goal.invariant-reads
invariant-reads g l = record {
  token : TokenFits (token_of l.piece);
  shallow : IsShallow (opens l.opened.items);
  fault : l.self.fault ≡ l.fn.self.fault;
  faults : g.I.Source.faults l.input ≡ g.I.Source.faults l.fn.input;
  went : Went l.fn.self.kept (ahead l.fn.self.ended (g.I.Source.left l.fn.input)) l.self.kept (ahead l.self.ended (g.I.Source.left l.input)) (token_of l.piece) (opens l.opened.items);
  ended : l.fn.self.ended ≡ true → (l.self.ended ≡ true) × (l.input ≡ l.fn.input);
  took : TakesOff (g.I.Source.left l.fn.input) (g.I.Source.left l.input);
  honest : StaysHonest l.fn.self.ended (g.I.Source.left l.fn.input) l.self.ended (g.I.Source.left l.input);
  asked : IsDecided l.fn.self.kept → l.input ≡ l.fn.input;
}
