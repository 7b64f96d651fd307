-- A reply that is built behind the room of its frame's head.
use Rattle.std.proofs.Common.{◌≡◌, ◌≤◌, ℕ, List, [], ◌++◌, length, drop, ap, ◌∙◌, append-nil, append_assoc, arith}
use Rattle.std.proofs.lemmas.List.{length-append}
use Rattle.lnfs_xdr.specs.Canon.{word}
use Rattle.lnfs_xdr.proofs.Sizes.{length-word}
use Rattle.lnfs_rpc.specs.Numbers.{a_reply, head_length}
use Rattle.lnfs_rpc.specs.Formats.{head_room}
use Rattle.lnfs_rpc.specs.Replies.{ReplyHead, head_text, reply_text}

-- the reply alone
pub behind_room : (built reply : List ℕ) → built ≡ head_room ++ reply → drop head_length built ≡ reply
unfolding word
behind_room built reply is = ap (drop head_length) is

-- the room is there
pub has_room : (built reply : List ℕ) → built ≡ head_room ++ reply → head_length ≤ length built
has_room built reply is = omega (arith, ap length is, length-append head_room reply, length-word 0)

-- results that are appended behind a head
pub with_results : (xid : ℕ) (head : ReplyHead) (results : List ℕ) → reply_text xid head [] ++ results ≡ reply_text xid head results
unfolding reply_text
with_results xid head results = ap (λ a. a ++ results) (append-nil (word xid ++ word a_reply ++ head_text head))

pub built_whole : (xid : ℕ) (head : ReplyHead) (results out built : List ℕ) → out ≡ head_room ++ reply_text xid head [] → built ≡ out ++ results → built ≡ head_room ++ reply_text xid head results
built_whole xid head results out built begun more =
    more ∙ ap (λ (b : List ℕ). b ++ results) begun ∙ append_assoc head_room (reply_text xid head []) results
    ∙ ap (λ (r : List ℕ). head_room ++ r) (with_results xid head results)
