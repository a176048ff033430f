use Rattle.guppy_package_parts.specs.Sources.{Source, Workspace, Path, External, GitRequest, Branch, Tag, Rev, Default, ExternalValue, Registry, Sparse, Git}
use Rattle.guppy_package_parts.specs.declared.package_source.PackageSource.{PackageSource}
use Rattle.guppy_package_parts.specs.declared.package_source.PackageSource.TheVariants as source
use Rattle.guppy_package_parts.specs.declared.external_source.ExternalSource.{ExternalSource}
use Rattle.guppy_package_parts.specs.declared.external_source.ExternalSource.TheVariants as external
use Rattle.guppy_package_parts.specs.declared.external_source.GitReq.{GitReq}
use Rattle.guppy_package_parts.specs.declared.external_source.GitReq.TheVariants as request

-- what contracts see of a source
abbrev pub source_view : PackageSource → Source
source_view (source.Workspace path) = Workspace path.now
source_view (source.Path path) = Path path.now
source_view (source.External text) = External text.now

-- what contracts see of what is asked of a repository
abbrev pub request_view : GitReq → GitRequest
request_view (request.Branch name) = Branch name.now
request_view (request.Tag name) = Tag name.now
request_view (request.Rev name) = Rev name.now
request_view request.Default = Default

-- what contracts see of an external source
abbrev pub external_view : ExternalSource → ExternalValue
external_view (external.Registry registry) = Registry registry.now
external_view (external.Sparse registry) = Sparse registry.now
external_view (external.Git repository request commit) = Git repository.now (request_view request) commit.now
