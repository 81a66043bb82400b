-- That a reply with one result, or none, has a spelling.
use Rattle.std.proofs.Common.{◌≡◌, ℕ, ◌+◌, ◌<◌, ◌≤◌, refl, sym, subst, List, [], ◌∷◌, ◌++◌, length, arith, length-append}
use Rattle.byte_grammar.specs.Numbers.{word, zeros, padding}
use Rattle.byte_grammar.proofs.Bytes.{wide16, wide32, length-zeros}
use Rattle.std.specs.Int.{w16, w32}
use Rattle.out_update.specs.declared.result.UpdateResult.{UpdateResult}
use Rattle.out_update.specs.Replies.{reply_magic, result_text, results_text, reply_text, FitsResult, FitsReply}

padded : (n : ℕ) → padding n < 8
unfolding padding
padded n = omega arith

long_result : (r : UpdateResult) → length r.body ≤ 16384 → length (result_text r) ≤ 16399
long_result r small =
    let zeroed = length-zeros (padding (length r.body)) in
    let few = padded (length r.body) in
    let a = length-append r.body (zeros (padding (length r.body))) in
    let b = length-append (word w32 (length r.body)) (r.body ++ zeros (padding (length r.body))) in
    let c = length-append (word w32 r.code) (word w32 (length r.body) ++ (r.body ++ zeros (padding (length r.body)))) in
    let d = wide32.len (length r.body) in
    let e = wide32.len r.code in
    omega (arith, small, zeroed, few, a, b, c, d, e)

head : (rs : List UpdateResult) → length (reply_text rs) ≡ 8 + length (results_text rs)
head rs =
    let a = length-append (zeros 2) (results_text rs) in
    let b = length-append (word w16 (length rs)) (zeros 2 ++ results_text rs) in
    let c = length-append (word w32 reply_magic) (word w16 (length rs) ++ (zeros 2 ++ results_text rs)) in
    let d = length-zeros 2 in
    let e = wide16.len (length rs) in
    let f = wide32.len reply_magic in
    omega (arith, a, b, c, d, e, f)

none_long : length (results_text []) ≡ 0
unfolding results_text
none_long = refl

one_long : (r : UpdateResult) → length (results_text (r ∷ [])) ≡ length (result_text r)
unfolding results_text
one_long r = let a = length-append (result_text r) [] in omega (arith, a)

pub none_fits : (rs : List UpdateResult) → rs ≡ [] → FitsReply rs
none_fits rs is = subst FitsReply (sym is) (record { count = omega arith; each = tt; size = let a = head [] in let b = none_long in omega (arith, a, b) })

pub one_fits : (rs : List UpdateResult) (r : UpdateResult) → rs ≡ r ∷ [] → FitsResult r → FitsReply rs
one_fits rs r is fits =
    let small = fits.size in
    let a = head (r ∷ []) in
    let b = one_long r in
    let c = long_result r small in
    subst FitsReply (sym is) (record { count = omega arith; each = (fits, tt); size = omega (arith, a, b, c) })
