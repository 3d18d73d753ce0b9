-- How a session ends, by the screens of the meaning.
use Rattle.std.proofs.Common.{◌≡◌, ◌+◌, ◌⊎◌, inl, inr, ℕ, suc, List, [], ◌++◌, length, take, Result, Ok, Err, IfOk, OnErr, refl, sym, subst, arith}
use Rattle.std.proofs.Math.Seq.{take-append-add, take-length}
use Rattle.std.proofs.lemmas.List.{length-append}
use Rattle.std.specs.Io.KnownBytes.{Appends}
use Rattle.std.proofs.KnownBytes.{Appends-nil}
use Rattle.setl_debug.specs.Sessions.{Follows}
use Rattle.std.specs.declared.alloc.AllocError.{AllocError}
use Rattle.setl_debug.specs.Ends.{Ends, IsDone, IsCut, IsCutInside}
use Rattle.setl_debug.specs.declared.sessions.Ended.{Ended}
use Rattle.setl_debug.specs.declared.sessions.Ended.TheVariants as ended
use Rattle.setl_debug_machine.specs.Growing.{HasScreen}
use Rattle.setl_debug_machine.specs.Runs.{RunState, run_of}
use Rattle.setl_debug_machine.specs.Screens.{PlainRun, IsScreen}
use Rattle.setl_debug_script.specs.declared.command.Command.{Command}
use Rattle.setl_debug_target.specs.Screens.{Screen}
use Rattle.setl_top_status.specs.Lines.{TriesLine, fault_line}
use Rattle.setl_top_status.specs.Seen.{Seen, CountRose, CountStays}
use Rattle.setl_top_status.specs.declared.fault.Fault.TheVariants as fault
use Rattle.setl_top_status.specs.declared.status.Status.TheVariants as status
use Rattle.setl_top_session.specs.Sessions.{Session, IsTold, run_in}
use Rattle.setl_top_session.specs.code.Follows.{FollowsScript, followed, unwritten, starved}
use Rattle.setl_top_session.proofs.Screens.{follows_so, follows_more}

module _ (s : Session) (r : PlainRun) (same : r ≡ run_in s) where
  abbrev shows : ℕ → Screen → Type 0
  shows k x = HasScreen r k x

  -- what commands told over the screens of the target
  told_so : (cs : List Command) (told : List ℕ) (next : ℕ) → Follows shows cs 0 told next → IsTold s cs told
  told_so cs told next f = record { next = next; follows = subst (λ q. Follows (IsScreen q) cs 0 told next) same (follows_so r cs 0 told next f) }

  module _ (out out' err err' : Seen (List ℕ)) where
    done_so : IsDone shows s.script out.held out'.held → CountStays out out' → err' ≡ err → FollowsScript s out out' err err' status.Done
    done_so d count still = followed d.told (told_so s.script d.told d.next d.follows) d.gained count still

    -- some of what a command tells, behind what those before it tell
    part_of : (told more : List ℕ) (m : ℕ) → Appends out.held out'.held (told ++ take m more) → Appends out.held out'.held (take (length told + m) (told ++ more))
    part_of told more m gained = subst (λ l. Appends out.held out'.held l) (sym (take-append-add told more m)) gained

    cut_told : (c : IsCutInside shows s.script out.held out'.held) → IsTold s (take (suc c.n) s.script) (c.told ++ c.more)
    cut_told c = told_so (take (suc c.n) s.script) (c.told ++ c.more) c.next (follows_more shows s.script c.n c.c 0 c.told c.k c.more c.next c.there c.follows c.does)

    unwritten_so : IsCutInside shows s.script out.held out'.held → CountRose out out' → TriesLine (fault_line fault.Write) err err' → FollowsScript s out out' err err' status.WriteFault
    unwritten_so c rose h = unwritten (suc c.n) (c.told ++ c.more) (length c.told + c.m) (cut_told c) (omega (arith, c.part, length-append c.told c.more)) (part_of c.told c.more c.m c.gained) rose h

    starved_so : IsCut shows s.script out.held out'.held ⊎ IsCutInside shows s.script out.held out'.held → CountStays out out' → TriesLine (fault_line fault.NoMemory) err err' → FollowsScript s out out' err err' status.NoMemory
    starved_so (inl c) count h =
        let d = c.done in
        starved c.n d.told (length d.told) (told_so (take c.n s.script) d.told d.next d.follows) (omega arith) (subst (λ l. Appends out.held out'.held l) (sym (take-length d.told)) d.gained) count h
    starved_so (inr c) count h =
        starved (suc c.n) (c.told ++ c.more) (length c.told + c.m) (cut_told c) (omega (arith, c.part, length-append c.told c.more)) (part_of c.told c.more c.m c.gained) count h

-- no run was made
starved_before : (s : Session) (out err err' : Seen (List ℕ)) → TriesLine (fault_line fault.NoMemory) err err' → FollowsScript s out out err err' status.NoMemory
starved_before s out err err' h = starved 0 [] 0 (record { next = 0; follows = (refl, refl) }) (omega arith) (Appends-nil out.held) refl h

-- ---- by the run, where one was made

module _ (s : Session) (out out' err err' : Seen (List ℕ)) where
  abbrev Made : Result RunState AllocError → Type 0
  Made r = IfOk r (λ x. run_of x ≡ run_in s)

  -- so the session ended
  abbrev EndsSo : Result RunState AllocError → Ended → Type 0
  EndsSo r e = IfOk r (λ x. Ends (HasScreen (run_of x)) s.script out.held out'.held out.faults out'.faults e)

  abbrev EndsWithout : Result RunState AllocError → Ended → Type 0
  EndsWithout r e = OnErr r ((e ≡ ended.NoMemory) × (out' ≡ out))

  pub done_by : (r : Result RunState AllocError) → Made r → EndsSo r ended.Done → EndsWithout r ended.Done → err' ≡ err → FollowsScript s out out' err err' status.Done
  done_by (Ok x) made e none still = done_so s (run_of x) made out out' err err' e.0 e.1 still
  done_by (Err x) made e none still = let other : ended.Done ≡ ended.NoMemory = none.0 in absurd (cc)

  pub unwritten_by : (r : Result RunState AllocError) → Made r → EndsSo r ended.WriteFault → EndsWithout r ended.WriteFault → TriesLine (fault_line fault.Write) err err' → FollowsScript s out out' err err' status.WriteFault
  unwritten_by (Ok x) made e none h = unwritten_so s (run_of x) made out out' err err' e.0 e.1 h
  unwritten_by (Err x) made e none h = let other : ended.WriteFault ≡ ended.NoMemory = none.0 in absurd (cc)

  pub starved_by : (r : Result RunState AllocError) → Made r → EndsSo r ended.NoMemory → EndsWithout r ended.NoMemory → TriesLine (fault_line fault.NoMemory) err err' → FollowsScript s out out' err err' status.NoMemory
  starved_by (Ok x) made e none h = starved_so s (run_of x) made out out' err err' e.0 e.1 h
  starved_by (Err x) made e none h = subst (λ o. FollowsScript s out o err err' status.NoMemory) (sym none.1) (starved_before s out err err' h)
