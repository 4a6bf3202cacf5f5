pub mod CrowdFacts
