use Rattle.std.proofs.Common.{length, ap, ◌∙◌, arith, length-append}
use Rattle.std.specs.Int.{w32}
use Rattle.byte_grammar.specs.Numbers.{word}
use Rattle.object_store.specs.Bodies.{body_bytes}
use Rattle.object_store.proofs.Lengths.{four, body_length}
use Rattle.object_store.proofs.reading.attr_get.Goals as goal

pub found-requires : goal.found-requires
found-requires c =
    let start = ap length c.new-bytes.ensures.items in
    let body = ap length c.in_ok-put_body.ensures ∙ length-append c.new-bytes.result.items (body_bytes c.body.result.now) in
    let count = ap length c.in_ok-put32.ensures.ok ∙ length-append c.put_body.new.out.items (word w32 c.len.result) in
    let end = ap length c.in_ok-put32-2.ensures.ok ∙ length-append c.put32.new.out.items (word w32 0) in
    let whole = ap length c.deref.ensures.value in
    let a = body_length c.body.result.now in
    let b = four c.len.result in
    let d = four 0 in
    omega (arith, start, body, count, end, whole, a, b, d)
