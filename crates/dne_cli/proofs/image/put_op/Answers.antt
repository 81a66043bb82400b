use Rattle.std.proofs.Common.{◌≡◌, ◌≤◌, ◌+◌, ◌++◌, List, ℕ, length, ap, sym, subst, arith, length-append}
use Rattle.dne_cli.proofs.image.put_op.Goals as goal

pub overflow_cast-bytes : goal.overflow_cast-bytes
overflow_cast-bytes c =
    let le : length c.bytes.result.now ≤ 255 = subst (λ (l : List ℕ). length l ≤ 255) (sym c.bytes.ensures.bytes) c.bytes.ensures.is_name.1 in
    omega (arith, le)

pub returns-in_ok-append-in-Create-clause-short : goal.returns-in_ok-append-in-Create-clause-short
returns-in_ok-append-in-Create-clause-short c =
    let le : length c.bytes-in-Create.result.now ≤ 255 = subst (λ (l : List ℕ). length l ≤ 255) (sym c.bytes-in-Create.ensures.bytes) c.bytes-in-Create.ensures.is_name.1 in
    let all : length c.append.new.self ≡ length (c.put_fid-in-Create.new.out ++ c.bytes-in-Create.result.now) = ap (λ (l : List ℕ). length l) c.in_ok-append-in-Create.ensures.ok in
    let two : length c.put_fid-in-Create.new.out ≡ length c.put_fid.new.out + 16 = c.in_ok-put_fid-in-Create-2.ensures.short in
    let one : length c.put_fid.new.out ≡ length c.put32.new.out + 16 = c.in_ok-put_fid-in-Create.ensures.short in
    let first : length c.put32.new.out ≡ length c.args.out.now + 4 = c.in_ok-put32-in-Create.ensures.short in
    omega (arith, length-append c.put_fid-in-Create.new.out c.bytes-in-Create.result.now, le, all, two, one, first)
