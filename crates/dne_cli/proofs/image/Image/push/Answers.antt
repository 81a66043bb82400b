use Rattle.std.proofs.Common.{◌≡◌, ◌≤◌, ◌+◌, ◌++◌, List, ℕ, length, drop, arith, ap, sym, ◌∙◌, subst, length-append}
use Rattle.dne_cli.specs.Image.{head_bytes, item_bytes}
use Rattle.dne_cli.proofs.Images.{length-head, counted, head_kept, head_front}
use Rattle.dne_cli.proofs.image.Image.push.Goals as goal

pub set_count-requires : goal.set_count-requires
set_count-requires c =
    let old = c.self.inside.bytes.items in
    let added : length c.extend_from_slice.new.self.items ≡ length (old ++ c.bytes.result.now) = ap (λ (l : List ℕ). length l) c.in_ok-extend_from_slice.ensures.items in
    let kept : length old ≡ length (head_bytes c.self.inside.count ++ drop 8 old) = ap (λ (l : List ℕ). length l) c.self.invariant.0 in
    let long : 8 ≤ length c.extend_from_slice.new.self.items = omega (arith, added, kept, length-append old c.bytes.result.now, length-append (head_bytes c.self.inside.count) (drop 8 old), length-head c.self.inside.count) in
    omega (arith, long, c.extend_from_slice.new.self.ok.0)

pub invariant_of-self-2 : goal.invariant_of-self-2
invariant_of-self-2 c =
    let old = c.self.inside.bytes.items in
    let item = c.bytes.result.now in
    let count = c.self.inside.count in
    let short : length item ≤ 303 = subst (λ (l : List ℕ). length l ≤ 303) (sym c.bytes.ensures) c.in_ok-item.ensures.short in
    head_kept count old item c.set_count.new.bytes.items (counted count old item c.extend_from_slice.new.self.items c.set_count.new.bytes.items c.self.invariant.0 c.in_ok-extend_from_slice.ensures.items c.set_count.ensures) c.self.invariant.1 short

pub returns-clause-pushed : goal.returns-clause-pushed
returns-clause-pushed c =
    let old = c.self.inside.bytes.items in
    let item = c.bytes.result.now in
    let count = c.self.inside.count in
    let is = counted count old item c.extend_from_slice.new.self.items c.set_count.new.bytes.items c.self.invariant.0 c.in_ok-extend_from_slice.ensures.items c.set_count.ensures in
    let made = item_bytes (record { request = c.args.request.now; reply = c.args.reply.now }) in
    let same : item ≡ made = c.bytes.ensures ∙ c.in_ok-item.ensures.bytes in
    ap (λ (l : List ℕ). (count + 1, l)) (head_front (count + 1) c.set_count.new.bytes.items (drop 8 old ++ item) is ∙ ap (λ (l : List ℕ). drop 8 old ++ l) same)
    ∙ ap (λ (v : ℕ × List ℕ). (v.0 + 1, v.1 ++ made)) c.self.view_is
