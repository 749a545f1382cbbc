use Rattle.std.proofs.Common.{◌≡◌, List, ℕ, length, ap, arith}
use Rattle.store_reopen.proofs.TakenFiles.{headers_all, headers_more}
use Rattle.store_reopen.proofs.registering.headers_len.Goals as goal

pub loop-header-preserved : goal.loop-header-preserved
loop-header-preserved c =
    let more = headers_more c.args.headers.now c.loop-header.header-index c.header-item.result c.loop-header-test.true c.header-item.is in
    let a : length c.bytes.result.now ≡ length c.header-item.result.0 = ap (λ (l : List ℕ). length l) c.bytes.ensures in
    let b : length c.bytes-in-loop-header.result.now ≡ length c.header-item.result.1 = ap (λ (l : List ℕ). length l) c.bytes-in-loop-header.ensures in
    omega (arith, more, a, b, c.saturating_add.ensures, c.saturating_add-in-loop-header.ensures, c.saturating_add-len.ensures, c.loop-header.invariant)

pub returns : goal.returns
returns c = let all = headers_all c.args.headers.now c.loop-header.header-index (omega (arith, c.loop-header-test.false)) in omega (arith, all, c.loop-header.invariant)
