use Rattle.std.proofs.Common.{◌≡◌, ◌≤◌, ◌<◌, ◌+◌, ◌-◌, ◌*◌, ◌^◌, ℕ, List, IsTrue, length, take}
use Rattle.std.specs.Prelude.{IfSome}
use Rattle.series_model.specs.declared.sample.Sample.{Sample}
use Rattle.pb_messages.specs.declared.info.PayloadInfo.{PayloadInfo}
use Rattle.pb_lines.specs.File.{IsFile}
use Rattle.pb_file.specs.Skip.{HasHeader}
use Rattle.pb_file.specs.Search.{HasSampleAt, IsLineStart, MayBegin}
use Rattle.pb_file.proofs.Narrowing.{Narrowed}
use Rattle.pb_file.proofs.search.halve.Given as goal

abbrev pub invariant-halves : goal.invariant-halves
invariant-halves g l =
    let bytes = g.H.ReadAt.bytes l.fn.file in
    let tells = IsTrue g.H.ReadAt.tells in
    let all = take l.fn.walk.len bytes in
    record {
      len_is : l.len ≡ l.fn.walk.len;
      same_len : l.walk.len ≡ l.fn.walk.len;
      info : l.walk.info ≡ l.fn.walk.info;
      within : (l.low ≤ l.len) × (l.high ≤ l.len) × (l.next ≤ l.len);
      last_within : IfSome l.last (λ at. at ≤ l.len);
      same : tells → g.H.ReadAt.bytes l.file ≡ bytes;
      faults : g.H.ReadAt.faults l.fn.file ≤ g.H.ReadAt.faults l.file;
      counts : l.fn.steps ≤ l.steps;
      headed : tells → (head : List ℕ) (info : PayloadInfo) → HasHeader l.fn.walk bytes head info → HasHeader l.walk bytes head info;
      starts : tells → (head : List ℕ) (info : PayloadInfo) → HasHeader l.fn.walk bytes head info → IsLineStart all l.head_len l.low × IsLineStart all l.head_len l.next × IfSome l.last (λ at. IsLineStart all l.head_len at);
      begins : tells → (head : List ℕ) (info : PayloadInfo) → HasHeader l.fn.walk bytes head info → MayBegin info all l.head_len l.next × IfSome l.last (λ at. HasSampleAt info all at);
      narrowed : tells → (head : List ℕ) (info : PayloadInfo) (samples : List Sample) → HasHeader l.fn.walk bytes head info → IsFile all head info samples → l.head_len ≡ length head + 1 → Narrowed head samples (l.until + 1) l.low l.high l.next l.last;
      cost : (d : ℕ) → l.fn.walk.len < 2 ^ d → (e : ℕ) × (l.high - l.low < 2 ^ e) × (l.steps + 2 * e ≤ l.fn.steps + 2 * d);
    }

abbrev pub decreases-halves : goal.decreases-halves
decreases-halves g l = l.high - l.low
