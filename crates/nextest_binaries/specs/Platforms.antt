-- The platforms as they are printed.
use Rattle.std.specs.Prelude.{ℕ, List, codes}
use Rattle.nextest_binaries.specs.declared.build_platform.BuildPlatform.{BuildPlatform}
use Rattle.nextest_binaries.specs.declared.build_platform.BuildPlatform.TheVariants.{Host, Target}

-- what a platform prints
abbrev pub platform_text : BuildPlatform → List ℕ
platform_text Host = codes "host"
platform_text Target = codes "target"
