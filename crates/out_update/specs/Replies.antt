-- Replies: the one spelling of each, and the fields in the order in which they are judged.
use Rattle.std.specs.Prelude.{◌≡◌, ℕ, zero, suc, ◌<◌, ◌≤◌, Bool, true, false, ◌==◌, ◌||◌, nat_le, List, [], ◌∷◌, ◌++◌, length, ◌^◌}
use Rattle.std.specs.List.{flat_map, AllByRecursion}
use Rattle.std.specs.Int.{w16, w32}
use Rattle.byte_grammar.specs.declared.verdict.Reason.TheVariants.{BadMagic, BadCount, BadLength, BadValue}
use Rattle.byte_grammar.specs.Grammar.{Grammar}
use Rattle.byte_grammar.specs.Grammar.Grammar.{Ends}
use Rattle.byte_grammar.specs.Numbers.{word, zeros, padding}
use Rattle.byte_grammar.specs.Fields.{number, nothing, anything}
use Rattle.out_update.specs.declared.result.UpdateResult.{UpdateResult}

abbrev pub reply_magic : ℕ
reply_magic = 0xbdde0101

abbrev pub one_of : List ℕ → ℕ → Bool
one_of [] n = false
one_of (c ∷ cs) n = (n == c) || one_of cs n

-- 0, or the number of EPERM, ENOENT, EEXIST, ENOTDIR, EISDIR, EINVAL, EFBIG, ENOSPC, EMLINK, ENOTEMPTY,
-- ELOOP or ENODATA
abbrev pub is_code : ℕ → Bool
is_code n = one_of (0 ∷ 1 ∷ 2 ∷ 17 ∷ 20 ∷ 21 ∷ 22 ∷ 27 ∷ 28 ∷ 31 ∷ 39 ∷ 40 ∷ 61 ∷ []) n

-- a result: its code, the length of its bytes, the bytes, and zeros up to a multiple of 8
abbrev pub result_text : UpdateResult → List ℕ
result_text r = word w32 r.code ++ (word w32 (length r.body) ++ (r.body ++ zeros (padding (length r.body))))

unfoldable pub results_text : List UpdateResult → List ℕ
results_text rs = flat_map result_text rs

-- a reply: magic, count, zeros, and the results
abbrev pub reply_text : List UpdateResult → List ℕ
reply_text rs = word w32 reply_magic ++ (word w16 (length rs) ++ (zeros 2 ++ results_text rs))

pub record FitsResult (r : UpdateResult) : Type 0 where
  pub code : r.code < 2 ^ 32
  pub code_known : is_code r.code ≡ true
  pub size : length r.body ≤ 16384

pub record FitsReply (rs : List UpdateResult) : Type 0 where
  pub count : length rs ≤ 128
  pub each : AllByRecursion FitsResult rs
  pub size : length (reply_text rs) ≤ 24576

-- the bytes are the reply's spelling
abbrev pub spells_reply : List UpdateResult → List ℕ → Type 0
spells_reply rs bytes = FitsReply rs × (bytes ≡ reply_text rs)

-- ---- the fields, and what follows a reply

unfoldable pub at_length : Grammar → Grammar
at_length next = number w32 BadLength (λ n. nat_le n 16384) (λ n. anything n (nothing (padding n) next))

unfoldable pub at_result : Grammar → Grammar
at_result next = number w32 BadValue is_code (λ _. at_length next)

unfoldable pub at_results : ℕ → Grammar → Grammar
at_results zero next = next
at_results (suc n) next = at_result (at_results n next)

unfoldable pub at_reply_count : Grammar → Grammar
at_reply_count next = number w16 BadCount (λ n. nat_le n 128) (λ n. nothing 2 (at_results n next))

unfoldable pub reply_then : Grammar → Grammar
reply_then next = number w32 BadMagic (λ n. n == reply_magic) (λ _. at_reply_count next)

-- a reply alone
unfoldable pub reply : Grammar
reply = reply_then Ends
