-- Where packages come from, and how Cargo writes it.
use Rattle.std.specs.Prelude.{ℕ, Bool, true, false, ◌||◌, [], ◌∷◌, ◌++◌, length, drop, nat_eq, codes, Option, Some, None, option_map, option_and_then, unwrap_or, if◌then◌else◌}
use Rattle.std.specs.List.{starts_with}
use Rattle.std.specs.Option.{option_or}
use Rattle.workspace_record.specs.Records.{Text}
use Rattle.workspace_record.specs.Equality.{text_eq}

-- of a `PackageSource`
pub data Source : Type 0 where
  Workspace : Text → Source
  Path : Text → Source
  External : Text → Source

-- of a `GitReq`
pub data GitRequest : Type 0 where
  Branch : Text → GitRequest
  Tag : Text → GitRequest
  Rev : Text → GitRequest
  Default : GitRequest

-- of an `ExternalSource`; of a git repository, then what was asked of it, then the commit
pub data ExternalValue : Type 0 where
  Registry : Text → ExternalValue
  Sparse : Text → ExternalValue
  Git : Text → GitRequest → Text → ExternalValue

-- nothing, and what follows the mark, where a text begins with the mark
abbrev pub split_here : Text → Text → Option (Text × Text)
split_here mark text = if starts_with nat_eq text mark then Some ([], drop (length mark) text) else None

-- what stands before a place is one byte longer
abbrev pub one_before : ℕ → Option (Text × Text) → Option (Text × Text)
one_before byte parts = option_map (λ p. (byte ∷ p.0, p.1)) parts

-- what stands before and after the first place of the mark
abbrev pub first_split : Text → Text → Option (Text × Text)
first_split mark [] = split_here mark []
first_split mark (byte ∷ text) = option_or (split_here mark (byte ∷ text)) (one_before byte (first_split mark text))

-- what stands before and after the last place of the mark
abbrev pub last_split : Text → Text → Option (Text × Text)
last_split mark [] = split_here mark []
last_split mark (byte ∷ text) = option_or (one_before byte (last_split mark text)) (split_here mark (byte ∷ text))

-- a repository, and what is asked of it after the first place of the mark
abbrev pub asked_by : Text → (Text → GitRequest) → Text → Option (Text × GitRequest)
asked_by mark request text = option_map (λ p. (p.0, request p.1)) (first_split mark text)

-- a repository, and what is asked of it: a branch, else a tag, else a revision, else its default branch (from guppy's `GitReq`)
abbrev pub git_request : Text → Text × GitRequest
git_request text =
    unwrap_or (option_or (asked_by (codes "?branch=") Branch text) (option_or (asked_by (codes "?tag=") Tag text) (asked_by (codes "?rev=") Rev text))) (text, Default)

abbrev pub git_of : Text × GitRequest → Text → ExternalValue
git_of asked commit = Git asked.0 asked.1 commit

-- a repository with what is asked of it, and the commit after the last `#`
abbrev pub git_source : Text → Option ExternalValue
git_source text = option_map (λ p. git_of (git_request p.0) p.1) (last_split (codes "#") text)

-- how Cargo reads an external source (from Cargo's package id specifications; guppy's `ExternalSource`)
abbrev pub external_of : Text → Option ExternalValue
external_of text =
    if starts_with nat_eq text (codes "registry+") then Some (Registry (drop 9 text)) else (if starts_with nat_eq text (codes "sparse+") then Some (Sparse (drop 7 text)) else (if starts_with nat_eq text (codes "git+") then git_source (drop 4 text) else None))

-- how Cargo writes what is asked of a repository
abbrev pub request_text : GitRequest → Text
request_text (Branch name) = codes "?branch=" ++ name
request_text (Tag name) = codes "?tag=" ++ name
request_text (Rev name) = codes "?rev=" ++ name
request_text Default = []

-- how Cargo writes an external source (from Cargo's package id specifications; guppy's `ExternalSource`)
abbrev pub external_text : ExternalValue → Text
external_text (Registry registry) = codes "registry+" ++ registry
external_text (Sparse registry) = codes "sparse+" ++ registry
external_text (Git repository request commit) = codes "git+" ++ (repository ++ (request_text request ++ (codes "#" ++ commit)))

-- the path or the text of a source
abbrev pub source_text : Source → Text
source_text (Workspace path) = path
source_text (Path path) = path
source_text (External text) = text

abbrev pub is_workspace : Source → Bool
is_workspace (Workspace path) = true
is_workspace (Path path) = false
is_workspace (External text) = false

abbrev pub is_path : Source → Bool
is_path (Workspace path) = false
is_path (Path path) = true
is_path (External text) = false

abbrev pub is_external : Source → Bool
is_external (Workspace path) = false
is_external (Path path) = false
is_external (External text) = true

abbrev pub is_local : Source → Bool
is_local source = is_workspace source || is_path source

abbrev pub is_crates_io : Source → Bool
is_crates_io (Workspace path) = false
is_crates_io (Path path) = false
is_crates_io (External text) = text_eq text (codes "registry+https://github.com/rust-lang/crates.io-index")

abbrev pub workspace_path_of : Source → Option Text
workspace_path_of (Workspace path) = Some path
workspace_path_of (Path path) = None
workspace_path_of (External text) = None

abbrev pub local_path_of : Source → Option Text
local_path_of (Workspace path) = Some path
local_path_of (Path path) = Some path
local_path_of (External text) = None

abbrev pub external_text_of : Source → Option Text
external_text_of (Workspace path) = None
external_text_of (Path path) = None
external_text_of (External text) = Some text

-- the external source that a package's source writes out
abbrev pub parsed_source : Source → Option ExternalValue
parsed_source source = option_and_then external_of (external_text_of source)

-- the source of a package: by its path in the workspace, else by its source, else by its path, which may be absent
abbrev pub source_of : Option Text → Option Text → Option Text → Source
source_of (Some member_path) source path = Workspace member_path
source_of None (Some source) path = External source
source_of None None path = Path (unwrap_or path [])
