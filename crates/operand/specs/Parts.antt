-- An operand as a kind and a value.
use Rattle.std.specs.Prelude.{ℕ, ◌+◌, ◌*◌, ◌<◌, ◌≡◌, Bool, true, false, ◌||◌}
use Rattle.spec.specs.Kinds.{is_logged, is_long, is_text}
use Rattle.operand.specs.declared.Parts.{Parts}
use Rattle.operand.specs.declared.Operand.{Operand}
use Rattle.operand.specs.declared.Operand.TheVariants.{ImageOperands, FPFastMathMode, SelectionControl, LoopControl, FunctionControl, MemorySemantics, MemoryAccess, KernelProfilingInfo, SourceLanguage, ExecutionModel, AddressingModel, MemoryModel, ExecutionMode, StorageClass, Dim, SamplerAddressingMode, SamplerFilterMode, ImageFormat, ImageChannelOrder, ImageChannelDataType, FPRoundingMode, LinkageType, AccessQualifier, FunctionParameterAttribute, Decoration, BuiltIn, Scope, GroupOperation, KernelEnqueueFlags, Capability, IdMemorySemantics, IdScope, IdRef, LiteralInt32, LiteralExtInstInteger, LiteralInt64, LiteralFloat32, LiteralFloat64, LiteralSpecConstantOpInteger, LiteralString, RayFlags, RayQueryIntersection, RayQueryCommittedIntersectionType, RayQueryCandidateIntersectionType, FragmentShadingRate}

-- a kind and a value
abbrev pub parts : ℕ → ℕ → Parts
parts k v = record { kind = k; value = v }

-- the kind and the value of an operand
unfoldable pub parts_of : Operand → Parts
parts_of (ImageOperands v) = parts 1 v
parts_of (FPFastMathMode v) = parts 2 v
parts_of (SelectionControl v) = parts 3 v
parts_of (LoopControl v) = parts 4 v
parts_of (FunctionControl v) = parts 5 v
parts_of (MemorySemantics v) = parts 6 v
parts_of (MemoryAccess v) = parts 7 v
parts_of (KernelProfilingInfo v) = parts 8 v
parts_of (SourceLanguage v) = parts 9 v
parts_of (ExecutionModel v) = parts 10 v
parts_of (AddressingModel v) = parts 11 v
parts_of (MemoryModel v) = parts 12 v
parts_of (ExecutionMode v) = parts 13 v
parts_of (StorageClass v) = parts 14 v
parts_of (Dim v) = parts 15 v
parts_of (SamplerAddressingMode v) = parts 16 v
parts_of (SamplerFilterMode v) = parts 17 v
parts_of (ImageFormat v) = parts 18 v
parts_of (ImageChannelOrder v) = parts 19 v
parts_of (ImageChannelDataType v) = parts 20 v
parts_of (FPRoundingMode v) = parts 21 v
parts_of (LinkageType v) = parts 22 v
parts_of (AccessQualifier v) = parts 23 v
parts_of (FunctionParameterAttribute v) = parts 24 v
parts_of (Decoration v) = parts 25 v
parts_of (BuiltIn v) = parts 26 v
parts_of (Scope v) = parts 27 v
parts_of (GroupOperation v) = parts 28 v
parts_of (KernelEnqueueFlags v) = parts 29 v
parts_of (Capability v) = parts 30 v
parts_of (IdMemorySemantics v) = parts 31 v
parts_of (IdScope v) = parts 32 v
parts_of (IdRef v) = parts 33 v
parts_of (LiteralInt32 v) = parts 34 v
parts_of (LiteralExtInstInteger v) = parts 35 v
parts_of (LiteralInt64 v) = parts 36 v
parts_of (LiteralFloat32 v) = parts 37 v
parts_of (LiteralFloat64 v) = parts 38 v
parts_of (LiteralSpecConstantOpInteger v) = parts 39 v
parts_of (LiteralString start length) = parts 40 (start + 4294967296 * length)
parts_of (RayFlags v) = parts 41 v
parts_of (RayQueryIntersection v) = parts 42 v
parts_of (RayQueryCommittedIntersectionType v) = parts 43 v
parts_of (RayQueryCandidateIntersectionType v) = parts 44 v
parts_of (FragmentShadingRate v) = parts 45 v

-- two words for kinds 36, 38 and 40
abbrev pub is_two : ℕ → Bool
is_two k = is_long k || is_text k

-- a kind of the log, and a value of one word or two
pub record Fits (k v : ℕ) : Type 0 where
  pub known : is_logged k ≡ true
  pub small : is_two k ≡ false → v < 4294967296
