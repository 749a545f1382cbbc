use Rattle.std.proofs.Common.{◌≡◌, List, ℕ, length, ap, arith}
use Rattle.store_reopen.specs.Adoption.{headers_len}
use Rattle.store_reopen.proofs.TakenFiles.{leb_is, short_by}
use Rattle.store_reopen.proofs.registering.is_short.Goals as goal

pub returns-clause-short : goal.returns-clause-short
returns-clause-short c rows =
    let x = c.args.candidate.now in
    let name : length c.bytes.result.now ≡ length x.name = ap (λ (l : List ℕ). length l) c.bytes.ensures.value in
    let hs : headers_len c.items.result.now ≡ headers_len x.front.info.headers = ap headers_len c.items.ensures in
    let total = c.saturating_add-2.ensures in
    let part = c.saturating_add.ensures in
    let of_headers = c.headers_len-headers.ensures in
    let is = leb_is c.saturating_add-2.result 1_073_741_824 in
    short_by rows x _ (λ so. let low = is.0 so in omega (arith, low, name, hs, total, part, of_headers), λ short. is.1 (omega (arith, short, name, hs, total, part, of_headers)))
