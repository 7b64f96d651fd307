-- How long the parts of a call are.
use Rattle.std.proofs.Common.{◌≡◌, ◌+◌, ◌≤◌, length, refl, arith}
use Rattle.std.proofs.lemmas.List.{length-append}
use Rattle.lnfs_xdr.proofs.Sizes.{length-word, length-long, length-opaque}
use Rattle.lnfs_gss3.specs.declared.handle.ContextHandle.{ContextHandle}
use Rattle.lnfs_gss3.specs.Grammar.{Credential, credential_text, Assertion, create_args_text, assertion_text, handle_text}

pub credential_length : (c : Credential) → length (credential_text c) ≤ length c.handle + 23
unfolding credential_text
credential_length c = simp (length-append, length-word) (omega (arith, length-opaque c.handle))

pub handle_length : (h : ContextHandle) → length (handle_text h) ≡ 16
unfolding handle_text
handle_length h = simp (length-append, length-word, length-long) refl

pub args_length : (a : Assertion) → length (create_args_text a) ≤ length a.label + 31
unfolding create_args_text assertion_text
args_length a = simp (length-append, length-word) (omega (arith, length-opaque a.label))
