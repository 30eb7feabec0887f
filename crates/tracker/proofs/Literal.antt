-- Laws of an operand's literal number: the arms in their order, and which of them has one.
use Prim.Native.Nat.{ℕ}
use mathlib.Core.Path.{◌≡◌, refl, ap, sym, ◌∙◌}
use Rattle.std.specs.Prelude.{None, Some}
use Rattle.operand.specs.declared.Operand.{Operand}
use Rattle.operand.specs.declared.Operand.TheVariants.{ImageOperands, FPFastMathMode, SelectionControl, LoopControl, FunctionControl, MemorySemantics, MemoryAccess, KernelProfilingInfo, SourceLanguage, ExecutionModel, AddressingModel, MemoryModel, ExecutionMode, StorageClass, Dim, SamplerAddressingMode, SamplerFilterMode, ImageFormat, ImageChannelOrder, ImageChannelDataType, FPRoundingMode, LinkageType, AccessQualifier, FunctionParameterAttribute, Decoration, BuiltIn, Scope, GroupOperation, KernelEnqueueFlags, Capability, IdMemorySemantics, IdScope, IdRef, LiteralInt32, LiteralExtInstInteger, LiteralInt64, LiteralFloat32, LiteralFloat64, LiteralSpecConstantOpInteger, LiteralString, RayFlags, RayQueryIntersection, RayQueryCommittedIntersectionType, RayQueryCandidateIntersectionType, FragmentShadingRate}
use Rattle.operand.specs.declared.Parts.{Parts}
use Rattle.operand.specs.Parts.{parts_of}
use Rattle.tracker.specs.Track.{literal_of}

-- an arm that is no LiteralInt32 has no number
other_arm : (o : Operand) → ((v : ℕ) → o ≡ LiteralInt32 v → ⊥) → None ≡ literal_of (parts_of o)
unfolding literal_of parts_of
other_arm (ImageOperands v) h = refl
other_arm (FPFastMathMode v) h = refl
other_arm (SelectionControl v) h = refl
other_arm (LoopControl v) h = refl
other_arm (FunctionControl v) h = refl
other_arm (MemorySemantics v) h = refl
other_arm (MemoryAccess v) h = refl
other_arm (KernelProfilingInfo v) h = refl
other_arm (SourceLanguage v) h = refl
other_arm (ExecutionModel v) h = refl
other_arm (AddressingModel v) h = refl
other_arm (MemoryModel v) h = refl
other_arm (ExecutionMode v) h = refl
other_arm (StorageClass v) h = refl
other_arm (Dim v) h = refl
other_arm (SamplerAddressingMode v) h = refl
other_arm (SamplerFilterMode v) h = refl
other_arm (ImageFormat v) h = refl
other_arm (ImageChannelOrder v) h = refl
other_arm (ImageChannelDataType v) h = refl
other_arm (FPRoundingMode v) h = refl
other_arm (LinkageType v) h = refl
other_arm (AccessQualifier v) h = refl
other_arm (FunctionParameterAttribute v) h = refl
other_arm (Decoration v) h = refl
other_arm (BuiltIn v) h = refl
other_arm (Scope v) h = refl
other_arm (GroupOperation v) h = refl
other_arm (KernelEnqueueFlags v) h = refl
other_arm (Capability v) h = refl
other_arm (IdMemorySemantics v) h = refl
other_arm (IdScope v) h = refl
other_arm (IdRef v) h = refl
other_arm (LiteralInt32 v) h = absurd (h v refl)
other_arm (LiteralExtInstInteger v) h = refl
other_arm (LiteralInt64 v) h = refl
other_arm (LiteralFloat32 v) h = refl
other_arm (LiteralFloat64 v) h = refl
other_arm (LiteralSpecConstantOpInteger v) h = refl
other_arm (LiteralString start length) h = refl
other_arm (RayFlags v) h = refl
other_arm (RayQueryIntersection v) h = refl
other_arm (RayQueryCommittedIntersectionType v) h = refl
other_arm (RayQueryCandidateIntersectionType v) h = refl
other_arm (FragmentShadingRate v) h = refl

-- a LiteralInt32 has its number
pub literal_there : (o : Operand) (p : Parts) → parts_of o ≡ p → (v : ℕ) → o ≡ LiteralInt32 v → Some v ≡ literal_of p
unfolding literal_of parts_of
literal_there o p q v e = ap literal_of (sym (ap parts_of e) ∙ q)

-- no other arm has one
pub literal_missing : (o : Operand) (p : Parts) → parts_of o ≡ p → ((v : ℕ) → o ≡ LiteralInt32 v → ⊥) → None ≡ literal_of p
literal_missing o p q h = other_arm o h ∙ ap literal_of q
