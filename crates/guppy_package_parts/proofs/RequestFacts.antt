-- What is asked of a repository, by the first mark that stands in the text, and the source that a text writes out.
use Rattle.std.proofs.Common.{◌≡◌, ◌++◌, ap, append_assoc, codes, Some, None, sym, ◌∙◌}
use Rattle.std.specs.Option.{option_map}
use Rattle.workspace_record.specs.Records.{Text}
use Rattle.guppy_package_parts.specs.Sources.{first_split, last_split, git_request, git_of, git_source, GitRequest, Branch, Tag, Rev, Default}

module _ (text : Text) where
  pub asks_branch : (before after : Text) → first_split (codes "?branch=") text ≡ Some (before, after) → git_request text ≡ (before, Branch after)
  asks_branch before after branch = rw branch

  module _ (no_branch : first_split (codes "?branch=") text ≡ None) where
    pub asks_tag : (before after : Text) → first_split (codes "?tag=") text ≡ Some (before, after) → git_request text ≡ (before, Tag after)
    asks_tag before after tag = rw (no_branch, tag)

    module _ (no_tag : first_split (codes "?tag=") text ≡ None) where
      pub asks_rev : (before after : Text) → first_split (codes "?rev=") text ≡ Some (before, after) → git_request text ≡ (before, Rev after)
      asks_rev before after rev = rw (no_branch, no_tag, rev)

      pub asks_default : first_split (codes "?rev=") text ≡ None → git_request text ≡ (text, Default)
      asks_default no_rev = rw (no_branch, no_tag, no_rev)

  -- the source that is made of the parts of a text at its last `#`
  pub git_source-from_parts : (asked commit : Text) (asks : Text × GitRequest) → last_split (codes "#") text ≡ Some (asked, commit) → asks ≡ git_request asked → Some (git_of asks commit) ≡ git_source text
  git_source-from_parts asked commit asks last r =
      ap (λ a. Some (git_of a commit)) r ∙ sym (ap (option_map (λ p. git_of (git_request p.0) p.1)) last)

  pub git_source-none : last_split (codes "#") text ≡ None → None ≡ git_source text
  git_source-none last = sym (ap (option_map (λ p. git_of (git_request p.0) p.1)) last)

  -- the parts joined again
  pub parts_joined : (asked commit repository asks : Text) → text ≡ asked ++ (codes "#" ++ commit) → repository ++ asks ≡ asked → repository ++ (asks ++ (codes "#" ++ commit)) ≡ text
  parts_joined asked commit repository asks whole joined =
      sym (append_assoc repository asks (codes "#" ++ commit)) ∙ ap (λ t. t ++ (codes "#" ++ commit)) joined ∙ sym whole
