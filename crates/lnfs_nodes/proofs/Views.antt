-- What a node shows, value by value.
use Rattle.std.proofs.Common.{◌≡◌, ℕ, List, ap, ◌∙◌}
use Rattle.lnfs_attrs.specs.declared.view.View.{View}
use Rattle.lnfs_attrs.specs.declared.view.Moment.{Moment}
use Rattle.lnfs_attrs.specs.declared.view.LabelValue.{LabelValue}

-- views with the same values are one
pub same_view : (a b : View) → a.kind ≡ b.kind → a.change ≡ b.change → a.size ≡ b.size → a.handle ≡ b.handle → a.fileid ≡ b.fileid → a.mode ≡ b.mode → a.links ≡ b.links
    → a.avail ≡ b.avail → a.used ≡ b.used → a.access ≡ b.access → a.metadata ≡ b.metadata → a.modify ≡ b.modify → a.label ≡ b.label → a.error ≡ b.error → a ≡ b
same_view a b kind change size handle fileid mode links avail used access metadata modify label error =
    ap (λ (x : ℕ). record a { kind = x }) kind
    ∙ ap (λ (x : ℕ). record a { kind = b.kind; change = x }) change
    ∙ ap (λ (x : ℕ). record a { kind = b.kind; change = b.change; size = x }) size
    ∙ ap (λ (x : List ℕ). record a { kind = b.kind; change = b.change; size = b.size; handle = x }) handle
    ∙ ap (λ (x : ℕ). record a { kind = b.kind; change = b.change; size = b.size; handle = b.handle; fileid = x }) fileid
    ∙ ap (λ (x : ℕ). record b { mode = x; links = a.links; avail = a.avail; used = a.used; access = a.access; metadata = a.metadata; modify = a.modify; label = a.label; error = a.error }) mode
    ∙ ap (λ (x : ℕ). record b { links = x; avail = a.avail; used = a.used; access = a.access; metadata = a.metadata; modify = a.modify; label = a.label; error = a.error }) links
    ∙ ap (λ (x : ℕ). record b { avail = x; used = a.used; access = a.access; metadata = a.metadata; modify = a.modify; label = a.label; error = a.error }) avail
    ∙ ap (λ (x : ℕ). record b { used = x; access = a.access; metadata = a.metadata; modify = a.modify; label = a.label; error = a.error }) used
    ∙ ap (λ (x : Moment). record b { access = x; metadata = a.metadata; modify = a.modify; label = a.label; error = a.error }) access
    ∙ ap (λ (x : Moment). record b { metadata = x; modify = a.modify; label = a.label; error = a.error }) metadata
    ∙ ap (λ (x : Moment). record b { modify = x; label = a.label; error = a.error }) modify
    ∙ ap (λ (x : LabelValue). record b { label = x; error = a.error }) label
    ∙ ap (λ (x : ℕ). record b { error = x }) error
